use Rattle.std.proofs.Common.{◌≡◌, map, take}
use Rattle.cr_model.specs.ProblemFiles.{count_of}
use Rattle.cr_read.proofs.query.counts_of.Given as goal

abbrev pub invariant-loop-limited : goal.invariant-loop-limited
invariant-loop-limited l = l.counts.items ≡ map count_of (take l.limited-index l.limits)
