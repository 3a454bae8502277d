use Rattle.std.proofs.Common.{map}
use Rattle.cr_store.specs.Shapes.{IsNodeLine, node_text}
use Rattle.cr_store.specs.ShapeReads.{node_parts}
use Rattle.cr_store.specs.ShapeSteps.{AreRead}
use Rattle.cr_store.proofs.shape.node_lines.Given as goal

-- the lines so far are read
abbrev pub invariant-loop-done : goal.invariant-loop-done
invariant-loop-done l = AreRead (node_text l.version) (IsNodeLine l.version) l._done l.text (map node_parts l.nodes.items) l.rest
