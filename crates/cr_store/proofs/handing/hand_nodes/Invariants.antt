use Rattle.cr_store.specs.Handing.{HandsNodes}
use Rattle.cr_store.proofs.handing.hand_nodes.Given as goal

-- so many nodes were handed on
abbrev pub invariant-loop-done : goal.invariant-loop-done
invariant-loop-done g l = HandsNodes l.problem l.initial.lines.rest.now l.initial.lines.last l.lines.rest.now l.lines.last (g.S.NodeSink.took l.initial.sink l.problem) (g.S.NodeSink.took l.sink l.problem) l._done
