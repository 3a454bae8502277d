use Rattle.std.proofs.Common.{◌+◌, ◌*◌, ◌<◌, ◌^◌, ◌∙◌, sym, arith}
use Rattle.cr_row.specs.Packed.{bells_of, bells_length}
use Rattle.cr_row.proofs.RowLaws.{IsRow-product}
use Rattle.cr_row.proofs.Packing.{Composed-none, Composed-more, Composed-room, Composed-all}
use Rattle.cr_row.proofs.rows.composed.Goals as goal

pub loop-left-init : goal.loop-left-init
loop-left-init c = Composed-none c.args.stage c.args.first c.args.second

pub overflow_mul-bits : goal.overflow_mul-bits
overflow_mul-bits c =
    let room : 16 * c.loop-left.bits + 0 < 2 ^ 64 = Composed-room c.args.stage c.args.first c.args.second c.loop-left.left c.loop-left.bits 0 c.requires.few (omega arith) (omega arith) c.loop-left.invariant in
    omega arith

pub nibble-requires : goal.nibble-requires
nibble-requires c = omega (arith, c.loop-left.invariant.within)

pub overflow_add-bits : goal.overflow_add-bits
overflow_add-bits c =
    let room : 16 * c.loop-left.bits + c.nibble-in-loop-left.result < 2 ^ 64 = Composed-room c.args.stage c.args.first c.args.second c.loop-left.left c.loop-left.bits c.nibble-in-loop-left.result c.requires.few (omega arith) (omega arith) c.loop-left.invariant in
    omega arith

pub loop-left-preserved : goal.loop-left-preserved
loop-left-preserved c =
    Composed-more c.args.stage c.args.first c.args.second c.loop-left.left c.loop-left.bits c.nibble.result c.nibble-in-loop-left.result c.requires.few c.requires.first c.requires.second (omega arith) c.nibble.ensures.is c.nibble-in-loop-left.ensures.is c.loop-left.invariant

pub returns-clause-bells : goal.returns-clause-bells
returns-clause-bells c = (Composed-all c.args.stage c.args.first c.args.second c.loop-left.left c.loop-left.bits (omega arith) c.loop-left.invariant).0

pub returns-clause-fits : goal.returns-clause-fits
returns-clause-fits c = (Composed-all c.args.stage c.args.first c.args.second c.loop-left.left c.loop-left.bits (omega arith) c.loop-left.invariant).1

pub returns-clause-row : goal.returns-clause-row
returns-clause-row c =
    let all = Composed-all c.args.stage c.args.first c.args.second c.loop-left.left c.loop-left.bits (omega arith) c.loop-left.invariant in
    rw all.0 (IsRow-product (bells_of c.args.stage c.args.first) (bells_of c.args.stage c.args.second) c.requires.first c.requires.second (bells_length c.args.stage c.args.first ∙ sym (bells_length c.args.stage c.args.second)))
