use Rattle.std.proofs.Common.{ℕ, List, sym, subst}
use Rattle.cr_model.specs.Callings.{HasSteps}
use Rattle.cr_model.specs.Touches.{Kept}
use Rattle.cr_log.proofs.Small.{touch_is_short}
use Rattle.cr_log.proofs.Touches.{touch_has_steps, not_found, not_round}
use Rattle.cr_log.proofs.finding.find.Goals as goal

pub returns-then-not-comes_round : goal.returns-then-not-comes_round
returns-then-not-comes_round c =
    not_found c.args.problem.now c.args.node.now c.args.book.now.items (c.a_test_decides_what_is_kept.ensures c.args.problem.now)
    (λ kept. not_round c.comes_round.result c.if-not-comes_round.true (c.comes_round.ensures.1 kept.wanted.touch.round))

pub touch_of-requires : goal.touch_of-requires
touch_of-requires c = touch_is_short c.args.problem.now c.args.node.now c.requires.at.sound c.requires.at.valid

pub is_kept-requires-clause-steps : goal.is_kept-requires-clause-steps
is_kept-requires-clause-steps c =
    subst (HasSteps c.args.problem.now) (sym c.in_ok-touch.ensures) (touch_has_steps c.args.problem.now c.args.node.now c.requires.at.valid.steps)

pub returns-else-branch : goal.returns-else-branch
returns-else-branch c =
    not_found c.args.problem.now c.args.node.now c.args.book.now.items (c.a_test_decides_what_is_kept.ensures c.args.problem.now)
    (λ kept. not_round c.in_ok-is_kept.field-0 c.if-branch.false (c.in_ok-is_kept.ensures.1 (subst (λ (t : List ℕ). Kept c.args.problem.now t) (sym c.in_ok-touch.ensures) kept)))
