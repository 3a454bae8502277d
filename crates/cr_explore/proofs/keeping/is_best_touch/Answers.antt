use Rattle.std.proofs.Common.{◌≡◌, ◌↔◌, List, ℕ, sym, subst}
use Rattle.std.specs.Prelude.{IsTrue}
use Rattle.std.proofs.lemmas.Bool.{false≢true}
use Rattle.cr_row.specs.Rows.{rounds}
use Rattle.cr_model.specs.Problems.{ProblemParts}
use Rattle.cr_model.specs.Callings.{head_of, rows_of, AllDiffer}
use Rattle.cr_model.specs.OneTurn.{touch_of}
use Rattle.cr_model.specs.Sound.{IsSound}
use Rattle.cr_path.specs.Best.{IsBest}
use Rattle.cr_explore.proofs.KeptTouches.{asked, kept_where_best}
use Rattle.cr_explore.proofs.keeping.is_best_touch.Goals as goal

pub returns-then-not-may_be_kept : goal.returns-then-not-may_be_kept
returns-then-not-may_be_kept g c = (
  λ h. absurd (false≢true h),
  λ kept. c.if-not-may_be_kept.ensures.1 (asked c.args.problem.now c.args.walk.now.node c.stage.ensures.sound
      (c.a_wanted_calling_is_kept_where_its_part_is_least.ensures c.args.problem.now) kept),
)

pub has_different_rows-requires-clause-sound : goal.has_different_rows-requires-clause-sound
has_different_rows-requires-clause-sound g c = subst IsSound (sym c.requires.same) c.stage.ensures.sound

pub has_different_rows-requires-clause-round : goal.has_different_rows-requires-clause-round
has_different_rows-requires-clause-round g c =
    subst (λ (p : ProblemParts). head_of p (touch_of p c.args.walk.now.node) ≡ rounds p.stage) (sym c.requires.same) (c.may_be_kept.ensures.0 c.if-not-may_be_kept.false).round.1

pub returns-then-not-has_different_rows : goal.returns-then-not-has_different_rows
returns-then-not-has_different_rows g c = (
  λ h. absurd (false≢true h),
  λ kept. c.if-not-has_different_rows.ensures.1
      (subst (λ (q : ProblemParts). AllDiffer (rows_of q (touch_of q c.args.walk.now.node))) (sym c.requires.same) kept.wanted.touch.differ),
)

pub returns : goal.returns
returns g c =
    let p = c.args.problem.now in
    let node : List ℕ = c.args.walk.now.node in
    let differ = subst (λ (q : ProblemParts). AllDiffer (rows_of q (touch_of q node))) c.requires.same (c.has_different_rows.ensures.0 c.if-not-has_different_rows.false) in
    let same = kept_where_best p c.requires.told node (c.a_rotation_of_a_true_touch_is_one.ensures p) c.stage.ensures.sound c.requires.valid (c.may_be_kept.ensures.0 c.if-not-may_be_kept.false) differ in
    let told : IsTrue c.is_best.result ↔ IsBest p node = subst (λ (steps : List ℕ). IsTrue c.is_best.result ↔ IsBest p steps) c.steps.ensures.is c.is_best.ensures in (
      λ h. same.0 (told.0 h),
      λ kept. told.1 (same.1 kept),
    )
