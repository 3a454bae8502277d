use Rattle.std.proofs.Common.{◌≡◌, ◌<◌, ◌∙◌, ℕ, [], length, get_or, sym, ap, subst}
use Rattle.cr_path.specs.Numbers.{NumberParts, IsBase, StartsHead}
use Rattle.cr_path.proofs.Places.{number_is}
use Rattle.cr_path.proofs.numbers.table.NumberTable.head_at.Goals as goal

pub head-requires : goal.head-requires
head-requires c =
    let e = c.self.inside in
    let from = subst (λ (t : NumberParts). StartsHead t c.args.base) (sym c.self.view_is) c.requires in
    let number : c.divided.result ≡ from.is.number =
    c.divided.ensures ∙ number_is _ from.row c.args.base from.is c.self.invariant.some in
    subst (λ (t : NumberParts). c.divided.result < length t.heads) c.self.view_is
    (subst (λ (n : ℕ). n < length e.heads.items) (sym number) from.is.numbered)

pub returns : goal.returns
returns c = λ row is.
    let from = subst (λ (t : NumberParts). IsBase t row c.args.base) (sym c.self.view_is) is in
    let number : c.divided.result ≡ from.number =
    c.divided.ensures ∙ number_is _ row c.args.base from c.self.invariant.some in
    c.head.ensures
    ∙ ap (λ (t : NumberParts). get_or t.heads c.divided.result []) (sym c.self.view_is)
    ∙ ap (λ (n : ℕ). get_or c.self.inside.heads.items n []) number
    ∙ from.is
