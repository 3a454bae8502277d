use Rattle.std.proofs.Common.{◌≡◌, ◌-◌, ◌∙◌, ℕ, List, length, true, not, sym, ap, subst}
use Rattle.std.specs.List.{list_any}
use Rattle.cr_row.specs.Rows.{rounds}
use Rattle.cr_model.specs.Callings.{changes_of_all, rows_from, rows_of, head_of}
use Rattle.cr_model.specs.Decided.{rows_differ}
use Rattle.cr_model.specs.Levels.{is_listed}
use Rattle.cr_model.specs.OneTurn.{touch_of}
use Rattle.cr_model.specs.Queries.{repeated}
use Rattle.cr_path.specs.Ends.{ends_of}
use Rattle.cr_path.specs.Marks.{TellOf}
use Rattle.cr_path.specs.Numbers.{NumberParts, IsBase, places_of}
use Rattle.cr_path.specs.Walks.{PathParts}
use Rattle.cr_path.proofs.Children.{head_long}
use Rattle.cr_path.proofs.Marking.{all_fresh, marks_of}
use Rattle.cr_path.proofs.Multiplied.{touch_told}
use Rattle.cr_path.proofs.Enough.{marks_tell, told_all}
use Rattle.cr_path.proofs.walks.path.Path.parts_differ.Goals as goal

pub bring_new_rows-requires-clause-head : goal.bring_new_rows-requires-clause-head
bring_new_rows-requires-clause-head g c =
    let w = c.self.inside in
    let at_end = c.last-base.ensures.is w.problem.now w.numbers w.steps w.next c.self.invariant.0.ends in
    let from = subst (λ (t : NumberParts). IsBase t (head_of w.problem.now w.steps) c.last-base.result.base) (sym c.table.ensures) at_end.from in
    record { row = head_of w.problem.now w.steps; is = record { from = from; long = head_long w.problem.now w.steps } }

pub returns : goal.returns
returns g c =
    let w = c.self.inside in
    let p = w.problem.now in
    let t = w.numbers in
    let at_end = c.last-base.ensures.is p t w.steps w.next c.self.invariant.0.ends in
    let differ : rows_differ (rows_of p w.steps) ≡ true = ap (λ (v : PathParts). rows_differ (rows_of v.problem v.node)) c.self.view_is ∙ c.requires.fresh in
    let round : head_of p (touch_of p w.steps) ≡ rounds p.stage = subst (λ (v : PathParts). head_of v.problem (touch_of v.problem v.node) ≡ rounds v.problem.stage) (sym c.self.view_is) c.requires.round in
    let from = subst (λ (t : NumberParts). IsBase t (head_of p w.steps) c.last-base.result.base) (sym c.table.ensures) at_end.from in
    let told = told_all p t c.self.invariant.0.numbered w.steps w.next (ends_of w.steps w.ends) c.self.invariant.0.ends c.self.invariant.0.valid in
    let marked = marks_of p t w.steps w.marks.marks (length w.steps - w.marks.unmarked) c.self.invariant.0.marked.are (all_fresh p t w.steps w.marks.marks (length w.steps - w.marks.unmarked) c.self.invariant.0.marked.are differ) in
    c.bring_new_rows.ensures (head_of p w.steps) (rows_of p w.steps) (record { from = from; long = head_long p w.steps })
    (subst (λ (t : NumberParts). TellOf p t (rows_of p w.steps) c.marks.result.now) (sym c.table.ensures)
    (subst (TellOf p t (rows_of p w.steps)) (sym c.marks.ensures) (marks_tell p t c.self.invariant.0.numbered (places_of t w.steps) (rows_of p w.steps) w.marks.marks told marked)))
    ∙ ap (λ (word : List ℕ). not (list_any (is_listed (rows_of p w.steps)) (rows_from (head_of p w.steps) (changes_of_all p (repeated c.parts_to_try-parts.result word))))) c.steps.ensures.is
    ∙ touch_told p w.steps c.parts_to_try-parts.result differ round c.parts_to_try-parts.ensures.within c.parts_to_try-parts.ensures.enough
    ∙ ap (λ (v : PathParts). rows_differ (rows_of v.problem (touch_of v.problem v.node))) c.self.view_is
