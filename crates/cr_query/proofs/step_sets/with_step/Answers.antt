use Rattle.std.proofs.Common.{ℕ, ◌*◌, ◌%◌, ◌^◌, ◌∙◌, ap}
use Rattle.std.specs.Int.RustNames.{bit_or}
use Rattle.cr_query.specs.Sets.{has_step}
use Rattle.cr_query.proofs.StepBits.{step_is, others_stay}
use Rattle.cr_query.proofs.step_sets.with_step.Goals as goal

pub returns-clause-is : goal.returns-clause-is
returns-clause-is c new =
    ap (λ (n : ℕ). has_step (bit_or c.args.set (n * 2 ^ c.args.step % 2 ^ 32)) c.args.step) c.from.ensures
    ∙ step_is c.args.set c.args.step c.requires c.args.is_in new

pub returns-clause-others : goal.returns-clause-others
returns-clause-others c other differs =
    ap (λ (n : ℕ). has_step (bit_or c.args.set (n * 2 ^ c.args.step % 2 ^ 32)) other) c.from.ensures
    ∙ others_stay c.args.set c.args.step c.requires c.args.is_in other differs
