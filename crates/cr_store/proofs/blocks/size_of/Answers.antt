use Rattle.std.proofs.Common.{◌≡◌, sym, ap, ◌∙◌, decimal, arith}
use Rattle.std.proofs.lemmas.Fmt.{decimal_injective}
use Rattle.cr_store.proofs.blocks.size_of.Goals as goal

pub returns-in-Some-eq0-clause-none : goal.returns-in-Some-eq0-clause-none
returns-in-Some-eq0-clause-none c = λ m size is.
    let nought : 0 ≡ m = decimal_injective 0 m (omega arith) (omega (arith, size.1))
    (ap decimal (sym c.in-Some-eq0.field-0-test) ∙ sym c.in-Some-eq0.ensures.some.1 ∙ is) in
    omega (arith, nought, size.0)
