use Rattle.std.proofs.Common.{◌≡◌, ℕ, List, sym, ap, ◌∙◌, subst}
use Rattle.std.proofs.lemmas.Bool.{false≢true}
use Rattle.cr_model.specs.Callings.{rows_of}
use Rattle.cr_model.specs.Decided.{rotated}
use Rattle.cr_model.specs.Queries.{MeetsCom, changes_of_method}
use Rattle.cr_audit.specs.Keeping.{AreRowsAsked}
use Rattle.cr_audit.proofs.Kept.{rotation_meets}
use Rattle.cr_audit.proofs.keeping.is_better.Goals as goal
use Rattle.cr_audit.proofs.keeping.is_better.Goals.{then-is_com_met, else-is_com_met}

pub returns : goal.returns
returns c =
    let p = c.args.problem.now in
    let steps = c.args.steps.now in
    let by = c.args.by in
    let turned : c.in_ok-rotation.rotation.items ≡ rotated by steps = c.in_ok-rotation.ensures in
    let value : c.deref-2.result.now ≡ rotated by steps = c.deref-2.ensures.value ∙ turned in
    let less = c.is_less_turned.ensures.0 c.if-not-is_less_turned.false in
    let met = λ (is : MeetsCom p.query.com (changes_of_method p c.deref-2.result.now)). subst (λ (l : List ℕ). MeetsCom p.query.com (changes_of_method p l)) value is in
    elim c.if-is_com_met.branch [
      | then-is_com_met w ↦
          let rows : w.deref-then-is_com_met.result.now ≡ rows_of p (rotated by steps) =
          w.deref-then-is_com_met.ensures.value ∙ c.in_ok-ring_rest.ensures ∙ ap (rows_of p) (c.deref.ensures.value ∙ turned) in (
            λ yes'. record {
              less = less;
              meets = rotation_meets p steps (c.a_rotation_of_a_true_touch_is_one.ensures p steps) c.requires.wanted by
                  (met (c.is_com_met.ensures.0 w.if-is_com_met.true))
                  (subst (AreRowsAsked p) rows (w.are_rows_asked.ensures.0 (sym w.result-is ∙ yes')));
            },
            λ better. w.result-is ∙ w.are_rows_asked.ensures.1 (subst (AreRowsAsked p) (sym rows) better.meets.patterns),
          )
      | else-is_com_met w ↦ (
        λ yes'. absurd (false≢true (sym w.if-is_com_met.false ∙ sym w.result-is ∙ yes')),
        λ better. absurd (false≢true (sym w.if-is_com_met.false ∙ c.is_com_met.ensures.1 (subst (λ (l : List ℕ). MeetsCom p.query.com (changes_of_method p l)) (sym value) better.meets.com))),
      )
    ]
