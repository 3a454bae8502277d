-- The step that a word's first steps bring next.
use Rattle.std.proofs.Common.{◌≡◌, ◌-◌, ◌<◌, length, get_or, ap, subst, arith}
use Rattle.cr_rotate.specs.Fronts.{Tells}
use Rattle.cr_rotate.proofs.Kept.{of_period, straight_from, straight_never}
use Rattle.cr_rotate.proofs.period.first_straight.Goals as goal

pub returns-in-0 : goal.returns-in-0
returns-in-0 c =
    let none : c.last_period.result ≡ 0 = omega (arith, c.from.ensures, c.in-0.is) in
    λ step. (λ turned. tt, λ any. straight_never c.args.steps.now step (subst (Tells c.args.steps.now (length c.args.steps.now)) none c.last_period.ensures))

pub returns-in_default : goal.returns-in_default
returns-in_default c =
    let some : 0 < c.last_period.result = omega (arith, c.from.ensures, c.in_default) in
    λ step. straight_from c.args.steps.now step c.last_period.result (get_or c.args.steps.now (length c.args.steps.now - c.from.result) 0)
    (of_period c.args.steps.now (length c.args.steps.now) c.last_period.result some c.last_period.ensures)
    (ap (λ p. get_or c.args.steps.now (length c.args.steps.now - p) 0) c.from.ensures)
