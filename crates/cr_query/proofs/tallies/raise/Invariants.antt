use Rattle.std.proofs.Common.{◌≡◌, ◌++◌, map, take, drop}
use Rattle.cr_query.specs.Tallies.{tallied}
use Rattle.cr_query.proofs.tallies.raise.Given as goal

abbrev pub invariant-loop-index : goal.invariant-loop-index
invariant-loop-index l = l.tallies ≡ map (tallied l.front l.of) (take l.index l.initial.tallies) ++ drop l.index l.initial.tallies
