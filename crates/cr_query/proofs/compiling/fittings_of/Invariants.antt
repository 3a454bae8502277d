use Rattle.std.proofs.Common.{◌≡◌, map, take}
use Rattle.cr_query.specs.Meters.{fitting_of}
use Rattle.cr_query.specs.Tallies.{fittings_at}
use Rattle.cr_query.proofs.compiling.fittings_of.Given as goal

abbrev pub invariant-loop-index : goal.invariant-loop-index
invariant-loop-index l = fittings_at 0 l.fittings.items ≡ map (fitting_of l.stage 0) (take l.index l.patterns)
