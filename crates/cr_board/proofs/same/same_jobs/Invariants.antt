use Rattle.std.proofs.Common.{◌≡◌, map, take}
use Rattle.cr_board.proofs.same.same_jobs.Given as goal

abbrev pub invariant-loop-index : goal.invariant-loop-index
invariant-loop-index l = map (λ job. job.items) (take l.index l.a) ≡ map (λ job. job.items) (take l.index l.b)
