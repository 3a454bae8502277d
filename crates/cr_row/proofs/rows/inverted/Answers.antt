use Rattle.std.proofs.Common.{arith}
use Rattle.cr_row.specs.Packed.{bells_of, bells_length}
use Rattle.cr_row.proofs.Nibbles.{at_most_16}
use Rattle.cr_row.proofs.Inverses.{Turned-none, Turned-shifted, Turned-all}
use Rattle.cr_row.proofs.rows.inverted.Goals as goal

pub loop-place-init : goal.loop-place-init
loop-place-init c = Turned-none (bells_of c.args.stage c.args.bits) c.args.stage c.requires.row (bells_length c.args.stage c.args.bits)

pub overflow_add-result : goal.overflow_add-result
overflow_add-result c =
    let next = Turned-shifted c.args.stage c.args.bits c.loop-place.result c.loop-place.place c.from.result c.nibble.result c.requires.few c.requires.row (omega arith) c.from.ensures c.nibble.ensures.is c.loop-place.invariant in
    omega (arith, next.fits, at_most_16 c.args.stage c.requires.few)

pub loop-place-preserved : goal.loop-place-preserved
loop-place-preserved c =
    Turned-shifted c.args.stage c.args.bits c.loop-place.result c.loop-place.place c.from.result c.nibble.result c.requires.few c.requires.row (omega arith) c.from.ensures c.nibble.ensures.is c.loop-place.invariant

pub returns-clause-undone : goal.returns-clause-undone
returns-clause-undone c = Turned-all (bells_of c.args.stage c.args.bits) c.args.stage c.loop-place.result c.loop-place.place c.requires.row (bells_length c.args.stage c.args.bits) (omega arith) c.loop-place.invariant
