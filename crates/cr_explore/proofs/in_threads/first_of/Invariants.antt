use Rattle.std.proofs.Common.{◌≡◌, drop}
use Rattle.cr_explore.specs.Slices.{first_told}
use Rattle.cr_explore.proofs.in_threads.first_of.Given as goal

abbrev pub invariant-loop-first : goal.invariant-loop-first
invariant-loop-first l = first_told l.told ≡ first_told (drop l.first-index l.told)
