use Rattle.std.proofs.Common.{◌≡◌, ◌<◌, ◌∙◌, ℕ, [], length, get_or, sym, ap, subst}
use Rattle.cr_path.specs.Numbers.{NumberParts, IsBase}
use Rattle.cr_path.proofs.Places.{number_is}
use Rattle.cr_path.proofs.numbers.table.NumberTable.number_of.Goals as goal

pub returns : goal.returns
returns c = λ row is.
    let e = c.self.inside in
    let from = subst (λ (t : NumberParts). IsBase t row c.args.base) (sym c.self.view_is) is in
    let number : c.divided.result ≡ from.number =
    c.divided.ensures ∙ number_is _ row c.args.base from c.self.invariant.some in
    subst (λ (t : NumberParts). (c.divided.result < length t.heads) × (get_or t.heads c.divided.result [] ≡ row)) c.self.view_is (
      subst (λ (n : ℕ). n < length e.heads.items) (sym number) from.numbered,
      ap (λ (n : ℕ). get_or e.heads.items n []) number ∙ from.is,
    )
