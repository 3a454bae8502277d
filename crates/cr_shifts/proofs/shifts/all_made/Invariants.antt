use Rattle.std.proofs.Common.{◌≡◌}
use Rattle.std.specs.Prelude.{map, Ok}
use Rattle.cr_shifts.proofs.shifts.all_made.Given as goal

abbrev pub invariant-loop-result : goal.invariant-loop-result
invariant-loop-result l = l.yielded ≡ map Ok l.made.items
