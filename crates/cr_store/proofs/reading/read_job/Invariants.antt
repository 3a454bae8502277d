use Rattle.std.proofs.Common.{map}
use Rattle.cr_store.specs.ShapeReads.{node_parts}
use Rattle.cr_store.proofs.Adding.{AreAdded}
use Rattle.cr_store.proofs.reading.read_job.Given as goal

-- the nodes of the lines so far were added
abbrev pub invariant-loop-line : goal.invariant-loop-line
invariant-loop-line l = AreAdded l.problem l.version (map node_parts l.lines) l.initial.nodes.items l.nodes.items l.line-index
