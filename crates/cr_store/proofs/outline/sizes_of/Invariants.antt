use Rattle.std.proofs.Common.{◌≡◌, length, map, take}
use Rattle.cr_store.specs.Reading.{lines_of_jobs}
use Rattle.cr_store.proofs.outline.sizes_of.Given as goal

abbrev pub invariant-loop-job : goal.invariant-loop-job
invariant-loop-job l = l.sizes.items ≡ map length (lines_of_jobs (take l.job-index l.jobs))
