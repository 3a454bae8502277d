use Rattle.std.proofs.Common.{◌≡◌, ◌↔◌, true, refl, ap, ◌∙◌, sym, subst}
use Rattle.std.specs.Prelude.{IsTrue}
use Rattle.std.proofs.lemmas.Bool.{false≢true}
use Rattle.cr_row.specs.Rows.{rounds}
use Rattle.cr_model.specs.Problems.{ProblemParts}
use Rattle.cr_model.specs.Callings.{HasSteps, head_of, rows_of, AllDiffer}
use Rattle.cr_model.specs.Dead.{turn_free}
use Rattle.cr_model.specs.OneTurn.{touch_of}
use Rattle.cr_model.specs.Sound.{IsSound}
use Rattle.cr_explore.proofs.Short.{touch_has_steps}
use Rattle.cr_explore.proofs.KeptTouches.{asked, kept_where_rows_differ}
use Rattle.cr_explore.proofs.keeping.is_touch_kept.Goals as goal

pub returns-then-not-may_be_kept : goal.returns-then-not-may_be_kept
returns-then-not-may_be_kept g c = (
  λ h. absurd (false≢true h),
  λ kept. c.if-not-may_be_kept.ensures.1 (asked c.args.problem.now (g.W.Standing.node_of c.args.walk.now) c.query-query.ensures.sound
      (c.a_wanted_calling_is_kept_where_its_part_is_least.ensures c.args.problem.now) kept),
)

pub has_different_rows-requires-clause-sound : goal.has_different_rows-requires-clause-sound
has_different_rows-requires-clause-sound g c = subst IsSound (sym c.requires.same) c.query-query.ensures.sound

pub has_different_rows-requires-clause-round : goal.has_different_rows-requires-clause-round
has_different_rows-requires-clause-round g c =
    subst (λ (p : ProblemParts). head_of p (touch_of p (g.W.Standing.node_of c.args.walk.now)) ≡ rounds p.stage) (sym c.requires.same) (c.may_be_kept.ensures.0 c.if-not-may_be_kept.false).round.1

pub returns-then-not-has_different_rows : goal.returns-then-not-has_different_rows
returns-then-not-has_different_rows g c = (
  λ h. absurd (false≢true h),
  λ kept. c.if-not-has_different_rows.ensures.1
      (subst (λ (q : ProblemParts). AllDiffer (rows_of q (touch_of q (g.W.Standing.node_of c.args.walk.now)))) (sym c.requires.same) kept.wanted.touch.differ),
)

pub returns-then-turn_free : goal.returns-then-turn_free
returns-then-turn_free g c =
    let p = c.args.problem.now in
    let free : turn_free p.query ≡ true = sym (c.turn_free.ensures ∙ ap turn_free c.query-query.ensures.is) ∙ c.if-turn_free.true in
    let may = c.may_be_kept.ensures.0 c.if-not-may_be_kept.false in
    let told = subst (λ (q : ProblemParts). IsTrue c.has_different_rows.result ↔ AllDiffer (rows_of q (touch_of q (g.W.Standing.node_of c.args.walk.now)))) c.requires.same c.has_different_rows.ensures in (
      λ h. kept_where_rows_differ p (g.W.Standing.node_of c.args.walk.now) (c.a_wanted_calling_is_kept_where_its_part_is_least.ensures p) c.query-query.ensures.sound free c.requires.valid may (told.0 c.if-not-has_different_rows.false),
      λ kept. refl,
    )

pub is_kept-requires-clause-steps : goal.is_kept-requires-clause-steps
is_kept-requires-clause-steps g c =
    let node : c.steps.result.now ≡ (g.W.Standing.node_of c.args.walk.now) = c.steps.ensures in
    subst (HasSteps c.args.problem.now) (sym (c.in_ok-touch.ensures ∙ ap (touch_of c.args.problem.now) node)) (touch_has_steps c.args.problem.now (g.W.Standing.node_of c.args.walk.now) c.requires.valid.steps)
