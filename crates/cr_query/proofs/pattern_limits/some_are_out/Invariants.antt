use Rattle.std.proofs.Common.{◌≡◌, ◌||◌, false, take}
use Rattle.std.specs.List.{list_any}
use Rattle.cr_query.specs.Gauges.{has_more_rows, has_fewer_rows}
use Rattle.cr_query.specs.Tallies.{fittings_at}
use Rattle.cr_query.proofs.pattern_limits.some_are_out.Given as goal

abbrev pub invariant-loop-fitting : goal.invariant-loop-fitting
invariant-loop-fitting l = list_any (λ fitting. has_more_rows fitting || has_fewer_rows l.more fitting) (fittings_at l.front (take l.fitting-index l.fittings)) ≡ false
