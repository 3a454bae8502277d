-- A line that is none of a node.
use Rattle.std.proofs.Common.{map}
use Rattle.cr_store.specs.ShapeReads.{node_parts}
use Rattle.cr_store.proofs.ShapeStops.{nodes_wrong}
use Rattle.cr_store.proofs.shape.node_lines.Goals as goal

pub returns-in_default-clause-stops : goal.returns-in_default-clause-stops
returns-in_default-clause-stops c = λ n.
    nodes_wrong c.args.version n c.loop-done._done c.args.count c.args.text.now (map node_parts c.loop-done.nodes.items) c.loop-done.rest.now c.loop-done.invariant
    c.loop-done-test.true c.in_default.ensures.none
