use Rattle.std.proofs.Common.{◌≡◌, map, take}
use Rattle.cr_model.specs.ProblemFiles.{pattern_of}
use Rattle.cr_read.proofs.query.patterns_of.Given as goal

abbrev pub invariant-loop-limited : goal.invariant-loop-limited
invariant-loop-limited l = l.patterns.items ≡ map pattern_of (take l.limited-index l.limits)
