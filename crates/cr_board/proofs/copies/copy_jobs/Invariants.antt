use Rattle.std.proofs.Common.{◌≡◌, map, take}
use Rattle.cr_board.proofs.copies.copy_jobs.Given as goal

abbrev pub invariant-loop-job : goal.invariant-loop-job
invariant-loop-job l = map (λ job. job.items) l.copy.items ≡ map (λ job. job.items) (take l.job-index l.jobs)
