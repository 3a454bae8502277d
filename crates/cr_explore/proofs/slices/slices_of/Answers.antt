-- One slice more.
use Rattle.std.proofs.Common.{◌≡◌, ◌+◌, min, subst, arith}
use Rattle.cr_explore.specs.Slices.{Adjoin}
use Rattle.cr_explore.proofs.InSlices.{adjoin_more, slice_more}
use Rattle.cr_explore.proofs.slices.slices_of.Goals as goal

pub loop-start-preserved : goal.loop-start-preserved
loop-start-preserved c =
    let start = c.loop-start.start in
    let next = c.min-end.result in
    let at : next ≡ min c.args.long (start + c.args.most) = omega (arith, c.min-end.ensures, c.saturating_add.ensures, c.ranges.long.fits) in
    record {
      inside = omega (arith, at);
      adjoin = adjoin_more 0 c.loop-start.slices.items c.push.new.self.items (record { start = start; end = next }) c.loop-start.invariant.adjoin c.in_ok-push.ensures.items;
      slices = slice_more c.args.long c.loop-start.slices.items c.push.new.self.items (record { start = start; end = next }) c.loop-start.invariant.slices
          (record { order = omega (arith, at, c.loop-start.invariant.inside); inside = omega (arith, at) }) c.in_ok-push.ensures.items;
    }

pub returns-clause-adjoin : goal.returns-clause-adjoin
returns-clause-adjoin c =
    let whole : c.loop-start.start ≡ c.args.long = omega (arith, c.loop-start.invariant.inside, c.loop-start-test.false) in
    subst (Adjoin 0 c.loop-start.slices.items) whole c.loop-start.invariant.adjoin
