-- The period after a step that is less, and after one that is greater.
use Rattle.std.proofs.Common.{◌+◌, ◌-◌, length, get_or, refl, ap, arith}
use Rattle.cr_rotate.proofs.Kept.{of_less, of_greater}
use Rattle.cr_rotate.proofs.period.longer.Goals as goal

pub returns-then-step-before : goal.returns-then-step-before
returns-then-step-before c =
    of_less c.args.steps.now c.args.step c.args.period (get_or c.args.steps.now (length c.args.steps.now - c.from.result) 0) c.requires.front
    (ap (λ p. get_or c.args.steps.now (length c.args.steps.now - p) 0) c.from.ensures) c.if-step-before.true

pub returns-else-step-before-2 : goal.returns-else-step-before-2
returns-else-step-before-2 c =
    of_greater c.args.steps.now c.args.step c.args.period (get_or c.args.steps.now (length c.args.steps.now - c.from.result) 0) (length c.args.steps.now + 1) c.requires.front
    (ap (λ p. get_or c.args.steps.now (length c.args.steps.now - p) 0) c.from.ensures) (omega (arith, c.if-step-before.false, c.if-step-before-2.false)) refl
