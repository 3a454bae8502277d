use Rattle.std.proofs.Common.{◌≡◌, ◌+◌, ◌++◌, ◌∷◌, [], List, length, take, sym, ap, ◌∙◌, subst, arith}
use Rattle.std.proofs.lemmas.List.{take_more_set, length_push}
use Rattle.std.specs.Prelude.{slice_set}
use Rattle.cr_path.specs.declared.walks.ends.LeadEnd.{LeadEnd}
use Rattle.cr_path.specs.Ends.{AreEnds, HasEnds}
use Rattle.cr_model.specs.Sizes.{child}
use Rattle.cr_path.proofs.Kept.{left_kept, end_more}
use Rattle.cr_path.proofs.walks.ends.Ends.push.Goals as goal

pub returns : goal.returns
returns c p t node next step after many are left is uncut =
    let e = c.self.inside in
    let last : LeadEnd = record { base = e.last.base; rung = e.last.rung; left = c.args.left; round = e.last.round } in
    let before = take (length node) e.before.items in
    let kept = left_kept p t node next before e.last (subst (HasEnds p t node next) (sym c.self.view_is) are) (step + 1) c.args.left left in
    let set = slice_set e.before.items c.args.leads last in
    let more : take (length (child node step)) set ≡ before ++ last ∷ [] =
    ap (λ n. take n set) (omega (arith, length_push node step, many)) ∙ take_more_set e.before.items c.args.leads last (omega (arith, c.self.invariant, c.requires))
    ∙ ap (λ n. take n e.before.items ++ last ∷ []) many in
    subst (λ (ends : List LeadEnd). AreEnds p t (child node step) after (ends ++ c.args.end ∷ [])) (sym more)
    (end_more p t node step after (before ++ last ∷ []) c.args.end kept is uncut)
