use Rattle.std.proofs.Common.{nat_eq, ap}
use Rattle.std.specs.Int.{w32}
use Rattle.std.proofs.lemmas.Nat.Bits.{bit_at_clear_same, bit_at_clear_other}
use Rattle.cr_query.proofs.step_sets.without_step.Goals as goal

pub returns-clause-is : goal.returns-clause-is
returns-clause-is c = ap (λ b. nat_eq b 1) (bit_at_clear_same w32 c.args.set c.args.step c.requires)

pub returns-clause-others : goal.returns-clause-others
returns-clause-others c other low differs = ap (λ b. nat_eq b 1) (bit_at_clear_other w32 c.args.set c.args.step c.requires other low differs)
