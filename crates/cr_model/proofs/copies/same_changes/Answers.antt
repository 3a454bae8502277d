use Rattle.std.proofs.Common.{◌≡◌, ap, sym, ◌∙◌}
use Rattle.std.specs.Bool.{Decides}
use Rattle.std.proofs.lemmas.Bool.Decides.{Decides-eqb, Decides-and, Decides-like}
use Rattle.std.proofs.lemmas.Slice.Eq.{slice_eq-Decides, bytes_eq-Decides}
use Rattle.cr_row.specs.Rows.{Places}
use Rattle.cr_row.specs.Order.{places_eq}
use Rattle.cr_model.proofs.copies.same_changes.Goals as goal

decides : (a b : Places) → Decides (places_eq a b) (a ≡ b)
decides a b =
    Decides-like (places_eq a b) (λ both. ap (λ n. record { stage = n; made = a.made }) both.0 ∙ ap (λ ps. record { stage = b.stage; made = ps }) both.1) (λ e. (ap (λ c. c.stage) e, ap (λ c. c.made) e))
    (Decides-and _ _ (Decides-eqb a.stage b.stage) (bytes_eq-Decides a.made b.made))

pub returns : goal.returns
returns c =
    let d = slice_eq-Decides decides _ _ _ c.eq.ensures in
    let left = c.as_slice.ensures.value ∙ ap (λ l. l.changes) c.lead.view_is in
    let right = c.as_slice-2.ensures.value ∙ ap (λ l. l.changes) c.other.view_is in
    (λ yes'. sym left ∙ d.0 yes' ∙ right, λ same. d.1 (left ∙ same ∙ sym right))
