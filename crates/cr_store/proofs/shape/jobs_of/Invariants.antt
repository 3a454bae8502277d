use Rattle.std.proofs.Common.{map}
use Rattle.cr_store.specs.Shapes.{IsJobLines, job_text}
use Rattle.cr_store.specs.ShapeReads.{job_parts}
use Rattle.cr_store.specs.ShapeSteps.{AreRead}
use Rattle.cr_store.proofs.shape.jobs_of.Given as goal

-- the jobs so far are read
abbrev pub invariant-loop-done : goal.invariant-loop-done
invariant-loop-done l = AreRead (job_text l.version) (IsJobLines l.version) l._done l.text (map job_parts l.jobs.items) l.rest
