use Rattle.std.proofs.Common.{◌≡◌, map, take}
use Rattle.cr_model.specs.ProblemFiles.{method_count_of}
use Rattle.cr_read.proofs.query.method_counts_of.Given as goal

abbrev pub invariant-loop-limited : goal.invariant-loop-limited
invariant-loop-limited l = l.counts.items ≡ map method_count_of (take l.limited-index l.limits)
