use Rattle.std.proofs.Common.{◌≡◌, ◌++◌, map, take, drop}
use Rattle.cr_query.specs.Tallies.{lead_on}
use Rattle.cr_query.proofs.pattern_limits.raise_rows.Given as goal

abbrev pub invariant-loop-index : goal.invariant-loop-index
invariant-loop-index l = l.fittings ≡ map (lead_on l.front l.head l.lead) (take l.index l.initial.fittings) ++ drop l.index l.initial.fittings
