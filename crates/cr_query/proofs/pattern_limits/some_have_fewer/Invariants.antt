use Rattle.std.proofs.Common.{◌≡◌, false, take}
use Rattle.std.specs.List.{list_any}
use Rattle.cr_query.specs.Gauges.{has_fewer_rows}
use Rattle.cr_query.specs.Tallies.{fittings_at}
use Rattle.cr_query.proofs.pattern_limits.some_have_fewer.Given as goal

abbrev pub invariant-loop-fitting : goal.invariant-loop-fitting
invariant-loop-fitting l = list_any (has_fewer_rows l.more) (fittings_at l.front (take l.fitting-index l.fittings)) ≡ false
