use Rattle.std.proofs.Common.{arith, ◌<◌, ◌+◌, ◌*◌, ◌-◌, ◌^◌, length}
use Rattle.cr_row.proofs.Packing.{more_room, Kept-more}
use Rattle.cr_row.proofs.rows.packed.Goals as goal

pub overflow_mul-bits : goal.overflow_mul-bits
overflow_mul-bits c =
    let room : 16 * c.loop-left.bits + 0 < 2 ^ 64 = more_room _ c.loop-left.bits 0 c.loop-left.invariant.fits (omega arith) (omega arith) in
    omega arith

pub overflow_add-bits : goal.overflow_add-bits
overflow_add-bits c =
    let below : c.loop-left.left - 1 < length c.args.bells.now = omega arith in
    let bell = c.requires.bells (c.loop-left.left - 1) below in
    let room : 16 * c.loop-left.bits + c.from.result < 2 ^ 64 = more_room _ c.loop-left.bits c.from.result c.loop-left.invariant.fits (omega arith) (omega (arith, bell.1)) in
    omega arith

pub loop-left-preserved : goal.loop-left-preserved
loop-left-preserved c =
    rw c.from.ensures (Kept-more c.args.bells.now c.loop-left.left c.loop-left.bits c.requires.bells (omega arith) c.loop-left.invariant)
