use Rattle.std.proofs.Common.{arith}
use Rattle.cr_row.proofs.Nibbles.{IsMoved, moved_right}
use Rattle.cr_row.proofs.changes.Change.moved.Goals as goal

pub returns-clause-bells : goal.returns-clause-bells
returns-clause-bells c =
    (moved_right c.args.self.now c.self.inside.stage c.self.inside.stay c.self.inside.first c.args.bits c.self.invariant c.self.view_is).bells

pub returns-clause-fits : goal.returns-clause-fits
returns-clause-fits c =
    (moved_right c.args.self.now c.self.inside.stage c.self.inside.stay c.self.inside.first c.args.bits c.self.invariant c.self.view_is).fits

pub overflow_add-result : goal.overflow_add-result
overflow_add-result c =
    let is : IsMoved c.args.self.now c.args.bits c.self.inside.stay c.self.inside.first = moved_right c.args.self.now c.self.inside.stage c.self.inside.stay c.self.inside.first c.args.bits c.self.invariant c.self.view_is in
    omega (arith, is.room)

pub overflow_add-result-2 : goal.overflow_add-result-2
overflow_add-result-2 c =
    let is : IsMoved c.args.self.now c.args.bits c.self.inside.stay c.self.inside.first = moved_right c.args.self.now c.self.inside.stage c.self.inside.stay c.self.inside.first c.args.bits c.self.invariant c.self.view_is in
    omega (arith, is.room)
