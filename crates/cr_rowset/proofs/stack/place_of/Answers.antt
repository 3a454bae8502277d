-- The chain goes on below the place.
use Rattle.std.proofs.Common.{◌-◌, refl, arith}
use Rattle.cr_rowset.proofs.Linked.{goes_on, goes_down}
use Rattle.cr_rowset.proofs.stack.place_of.Goals as goal

pub loop-mark-smaller : goal.loop-mark-smaller
loop-mark-smaller c = goes_down c.args.keys.now c.args.before.now c.args.len c.loop-mark.mark c.args.key c.loop-mark.invariant (omega (arith, c.loop-mark-test.true))

pub loop-mark-preserved : goal.loop-mark-preserved
loop-mark-preserved c =
    goes_on c.args.keys.now c.args.before.now c.args.len c.loop-mark.mark (c.loop-mark.mark - 1) _ c.args.key c.loop-mark.invariant (omega (arith, c.loop-mark-test.true))
    c.if-keys-place.false refl
