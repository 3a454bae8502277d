use Rattle.std.proofs.Common.{◌≡◌, ◌%◌, ◌/◌, ◌^◌, ℕ, nat_eq, ap, ◌∙◌, arith}
use Rattle.std.specs.Int.RustNames.{bit_and}
use Rattle.std.proofs.lemmas.Nat.{and_mask}
use Rattle.std.proofs.lemmas.Nat.Bits.{shr_and_one}
use Rattle.cr_query.proofs.step_sets.has_step.Goals as goal

pub returns : goal.returns
returns c low =
    let small : c.args.step % 32 ≡ c.args.step = omega (arith, low) in
    let same : bit_and c.args.step 31 ≡ c.args.step = and_mask c.args.step 5 ∙ small in
    ap (λ (n : ℕ). nat_eq n 1) (ap (λ (n : ℕ). bit_and (c.args.set / 2 ^ n) 1) same ∙ shr_and_one c.args.set c.args.step)
