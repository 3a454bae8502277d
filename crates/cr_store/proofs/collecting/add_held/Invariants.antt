use Rattle.std.proofs.Common.{◌≡◌, ◌++◌, map, drop}
use Rattle.std.specs.Prelude.{flat_map}
use Rattle.cr_board.specs.Boards.{held_jobs}
use Rattle.cr_store.specs.Written.{jobs_seen}
use Rattle.cr_store.proofs.collecting.add_held.Given as goal

abbrev pub invariant-loop-worker : goal.invariant-loop-worker
invariant-loop-worker l =
    jobs_seen l.jobs.items ++ map (λ job. job.nodes) (flat_map held_jobs (drop l.worker l.board.held))
    ≡ jobs_seen l.initial.jobs.items ++ map (λ job. job.nodes) (flat_map held_jobs l.board.held)
