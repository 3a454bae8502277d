use Rattle.std.proofs.Common.{◌≡◌, ◌-◌, ◌+◌, ◌∙◌, ap, sym, arith, length, get_or}
use Rattle.cr_row.specs.Packed.{bells_of, bells_length, bell_read}
use Rattle.cr_row.proofs.rows.Row.bell_at.Goals as goal

pub returns-clause-bell : goal.returns-clause-bell
returns-clause-bell c =
    let seen : length (bells_of c.self.inside.stage c.self.inside.bits) ≡ length c.args.self.now = ap length c.self.view_is in
    let long = bells_length c.self.inside.stage c.self.inside.bits in
    let read = bell_read c.self.inside.stage c.self.inside.bits (c.args.place - 1) 0 (omega arith) in
    ap (λ b. b + 1) c.nibble.ensures.is ∙ sym read ∙ ap (λ l. get_or l (c.args.place - 1) 0) c.self.view_is

pub returns-clause-in_range : goal.returns-clause-in_range
returns-clause-in_range c =
    let long = bells_length c.self.inside.stage c.self.inside.bits in
    let seen : length (bells_of c.self.inside.stage c.self.inside.bits) ≡ length c.args.self.now = ap length c.self.view_is in
    let bell = c.self.invariant.row.in_range (c.args.place - 1) (omega arith) in
    let read = bell_read c.self.inside.stage c.self.inside.bits (c.args.place - 1) 0 (omega arith) in
    (omega arith, omega (arith, bell.1))
