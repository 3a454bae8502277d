use Rattle.std.proofs.Common.{[], take}
use Rattle.std.specs.Prelude.{flat_map}
use Rattle.cr_store.specs.Lines.{AreNodesOf}
use Rattle.cr_store.specs.Reading.{lines_of_jobs}
use Rattle.cr_store.proofs.reading.read_nodes.Given as goal

-- the nodes of the jobs so far
abbrev pub invariant-loop-lines : goal.invariant-loop-lines
invariant-loop-lines l =
    AreNodesOf l.problem l.shape.version [] (flat_map (λ job. job) (take l.lines-index (lines_of_jobs l.shape.jobs.items))) l.nodes.items
