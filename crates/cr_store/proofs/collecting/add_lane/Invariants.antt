use Rattle.std.proofs.Common.{◌≡◌, ◌++◌, map, drop}
use Rattle.cr_store.specs.Written.{jobs_seen}
use Rattle.cr_store.proofs.collecting.add_lane.Given as goal

abbrev pub invariant-loop-job : goal.invariant-loop-job
invariant-loop-job l =
    jobs_seen l.jobs.items ++ map (λ job. job.nodes) (drop l.job-index l.lane)
    ≡ jobs_seen l.initial.jobs.items ++ map (λ job. job.nodes) l.lane
