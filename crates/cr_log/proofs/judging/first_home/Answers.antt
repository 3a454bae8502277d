use Rattle.std.proofs.Common.{ℕ, List, ◌∙◌, refl, sym, ap, subst}
use Rattle.std.specs.Prelude.{Contains}
use Rattle.cr_row.specs.Rows.{rounds}
use Rattle.cr_rowset.specs.Pushing.{StandsAt}
use Rattle.cr_log.proofs.Places.{never_round, round_early, round_late}
use Rattle.cr_log.proofs.judging.first_home.Goals as goal

pub returns-then-is_early : goal.returns-then-is_early
returns-then-is_early c =
    let stands = subst (λ (row : List ℕ). StandsAt c.args.rows.now.rows row c.in-Some.place) (c.rounds.ensures.is ∙ ap rounds c.stage.ensures.is) c.in-Some.ensures.some in
    round_early c.args.problem.now c.args.node.now c.args.rows.now c.requires.at c.len-length.ensures.different c.in-Some.place stands
    (rw c.len-length.ensures.is at (sym c.is_early.ensures ∙ c.if-is_early.true))

pub returns-else-is_early : goal.returns-else-is_early
returns-else-is_early c =
    let stands = subst (λ (row : List ℕ). StandsAt c.args.rows.now.rows row c.in-Some.place) (c.rounds.ensures.is ∙ ap rounds c.stage.ensures.is) c.in-Some.ensures.some in
    round_late c.args.problem.now c.args.node.now c.args.rows.now c.requires.at c.len-length.ensures.different c.in-Some.place stands
    (rw c.len-length.ensures.is at (sym c.is_early.ensures ∙ c.if-is_early.false))

pub returns-in-None : goal.returns-in-None
returns-in-None c =
    never_round c.args.problem.now c.args.node.now c.args.rows.now c.requires.at
    (λ held. c.in-None.ensures.none refl (subst (λ (row : List ℕ). Contains c.args.rows.now.rows row) (sym (c.rounds.ensures.is ∙ ap rounds c.stage.ensures.is)) held))
