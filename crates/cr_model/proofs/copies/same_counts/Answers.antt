use Rattle.std.proofs.Common.{rules, ◌≡◌, ap, sym, ◌∙◌}
use Rattle.std.specs.Bool.{Decides}
use Rattle.std.proofs.lemmas.Slice.Eq.{slice_eq-Decides}
use Rattle.cr_model.specs.declared.query.Count.{Count}
use Rattle.cr_model.specs.contracts.query.CountPartialEq.TheImpl.{eq-value}
use Rattle.cr_model.proofs.copies.same_counts.Goals as goal

decides : (a b : Count) → Decides (eq-value.it a b) (a ≡ b)
decides a b = search rules

pub returns : goal.returns
returns c =
    let d = slice_eq-Decides decides _ _ _ c.eq.ensures in
    let left = c.as_slice.ensures.value ∙ ap (λ q. q.counts) c.query.view_is in
    let right = c.as_slice-2.ensures.value ∙ ap (λ q. q.counts) c.other.view_is in
    (λ yes'. sym left ∙ d.0 yes' ∙ right, λ same. d.1 (left ∙ same ∙ sym right))
