use Rattle.cr_store.specs.Handing.{HandsJobs}
use Rattle.cr_store.proofs.handing.hand_jobs.Given as goal

-- the nodes of so many jobs were handed on
abbrev pub invariant-loop-done : goal.invariant-loop-done
invariant-loop-done g l = HandsJobs l.problem l.initial.lines.rest.now l.initial.lines.last l.lines.rest.now l.lines.last (g.S.NodeSink.took l.initial.sink l.problem) (g.S.NodeSink.took l.sink l.problem) l._done
