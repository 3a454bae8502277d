use Rattle.std.proofs.Common.{◌≡◌, map}
use Rattle.std.specs.List.{range_with_len}
use Rattle.cr_query.specs.Kinds.{kind_of}
use Rattle.cr_query.proofs.compiling.kinds_of.Given as goal

abbrev pub invariant-loop-step : goal.invariant-loop-step
invariant-loop-step l = l.kinds.items ≡ map (kind_of l.problem) (range_with_len 0 l.step)
