use Rattle.std.proofs.Common.{◌≡◌, ◌++◌, [], drop, map}
use Rattle.cr_model.specs.Checkpoints.{job_lines}
use Rattle.cr_store.proofs.texts.write_jobs.Given as goal

abbrev pub invariant-loop-job : goal.invariant-loop-job
invariant-loop-job g l =
    l.text.items ++ job_lines l.problem 2 l.last (map g.J.Job.nodes (drop l.job-index l.jobs))
    ≡ l.initial.text.items ++ job_lines l.problem 2 [] (map g.J.Job.nodes l.jobs)
