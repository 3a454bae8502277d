use Rattle.std.proofs.Common.{◌≡◌, ◌++◌, take, drop}
use Rattle.cr_query.specs.Tallies.{all_on}
use Rattle.cr_query.proofs.pattern_limits.raise_counted.Given as goal

abbrev pub invariant-loop-index : goal.invariant-loop-index
invariant-loop-index l = l.fittings ≡ all_on l.front (take l.index l.initial.fittings) l.rows ++ drop l.index l.initial.fittings
