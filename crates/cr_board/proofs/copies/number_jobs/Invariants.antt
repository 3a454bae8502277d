use Rattle.std.proofs.Common.{◌≡◌, map, take}
use Rattle.cr_board.specs.Jobs.{numbered}
use Rattle.cr_board.proofs.copies.number_jobs.Given as goal

abbrev pub invariant-loop-job : goal.invariant-loop-job
invariant-loop-job l = l.lane.items ≡ numbered 0 (map (λ job. job.items) (take l.job-index l.jobs))
