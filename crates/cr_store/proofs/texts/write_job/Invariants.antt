use Rattle.std.proofs.Common.{◌≡◌, ◌++◌, drop}
use Rattle.cr_model.specs.Checkpoints.{node_lines, last_node}
use Rattle.cr_store.proofs.texts.write_job.Given as goal

abbrev pub invariant-loop-index : goal.invariant-loop-index
invariant-loop-index g l =
    (l.text.items ++ node_lines l.problem 2 l.last (drop l.index (g.J.Job.nodes l.job))
    ≡ l.initial.text.items ++ node_lines l.problem 2 l.initial.last (g.J.Job.nodes l.job))
    × (last_node l.last (drop l.index (g.J.Job.nodes l.job)) ≡ last_node l.initial.last (g.J.Job.nodes l.job))
