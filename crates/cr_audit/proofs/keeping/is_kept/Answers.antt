use Rattle.std.proofs.Common.{sym, ◌∙◌, refl, subst}
use Rattle.std.proofs.lemmas.Bool.{false≢true}
use Rattle.std.proofs.lemmas.Result.{IfOk-weaker}
use Rattle.cr_audit.specs.Keeping.{IsLeast}
use Rattle.cr_audit.proofs.Kept.{least_is_kept, kept_where_none_better}
use Rattle.cr_audit.proofs.keeping.is_kept.Goals as goal

pub returns-then-not-branch : goal.returns-then-not-branch
returns-then-not-branch c = (
  λ h. absurd (false≢true h),
  λ kept. absurd (false≢true (sym c.if-not-branch.true ∙ c.in_ok-is_wanted.ensures.1 kept.wanted)),
)

pub returns-then-least : goal.returns-then-least
returns-then-least c =
    let p = c.args.problem.now in
    let touch = c.args.touch.now in
    let least : IsLeast touch = subst IsLeast c.steps.ensures.is (c.is_least-least.ensures.0 c.if-least.true) in
    (λ _. least_is_kept p touch (c.in_ok-is_wanted.ensures.0 c.if-not-branch.false) least, λ _. refl)

pub returns : goal.returns
returns c =
    let p = c.args.problem.now in
    let touch = c.args.touch.now in
    let same = kept_where_none_better p touch (c.a_rotation_of_a_true_touch_is_one.ensures p touch) (c.in_ok-is_wanted.ensures.0 c.if-not-branch.false) in
    IfOk-weaker c.none_is_better.result _ _ (λ none told. (λ yes'. same.0 (told.0 yes'), λ kept. told.1 (same.1 kept))) c.none_is_better.ensures
