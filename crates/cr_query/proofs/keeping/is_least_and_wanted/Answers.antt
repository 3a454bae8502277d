use Rattle.std.proofs.Common.{sym, ◌∙◌}
use Rattle.std.proofs.lemmas.Bool.{false≢true}
use Rattle.std.proofs.lemmas.Result.{IfOk-weaker}
use Rattle.cr_query.proofs.KeptCallings.{kept_where_least}
use Rattle.cr_query.proofs.keeping.is_least_and_wanted.Goals as goal

pub returns-then-not-branch : goal.returns-then-not-branch
returns-then-not-branch c =
    let p = c.args.problem.now in
    let calling = c.args.calling.now in (
      λ h. absurd (false≢true h),
      λ kept.
          let same = kept_where_least p calling (c.a_rotation_of_a_wanted_touch_is_wanted.ensures p calling) c.requires.free kept.wanted in
          absurd (false≢true (sym c.if-not-branch.true ∙ c.in_ok-is_least.ensures.1 (same.1 kept))),
    )

pub returns : goal.returns
returns c =
    let p = c.args.problem.now in
    let calling = c.args.calling.now in
    IfOk-weaker c.is_wanted.result _ _
    (λ wanted told. (
      λ yes'. (kept_where_least p calling (c.a_rotation_of_a_wanted_touch_is_wanted.ensures p calling) c.requires.free (told.0 yes')).0 (c.in_ok-is_least.ensures.0 c.if-not-branch.false),
      λ kept. told.1 kept.wanted,
    ))
    c.is_wanted.ensures
