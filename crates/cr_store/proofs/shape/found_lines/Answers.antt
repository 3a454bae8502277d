-- A line that is none of a found touch.
use Rattle.std.proofs.Common.{map}
use Rattle.cr_store.specs.ShapeReads.{found_parts}
use Rattle.cr_store.proofs.ShapeStops.{found_wrong}
use Rattle.cr_store.proofs.shape.found_lines.Goals as goal

pub returns-in_default-clause-stops : goal.returns-in_default-clause-stops
returns-in_default-clause-stops c = λ version.
    found_wrong version c.loop-done._done c.args.count c.args.text.now (map found_parts c.loop-done.found.items) c.loop-done.rest.now c.loop-done.invariant
    c.loop-done-test.true c.in_default.ensures.none
