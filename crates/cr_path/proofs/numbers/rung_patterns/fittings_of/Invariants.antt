use Rattle.std.proofs.Common.{◌≡◌, map, take}
use Rattle.cr_path.specs.Numbers.{all_fitting}
use Rattle.cr_path.proofs.numbers.rung_patterns.fittings_of.Given as goal

abbrev pub invariant-loop-pattern : goal.invariant-loop-pattern
invariant-loop-pattern l = l.fittings.items ≡ map (all_fitting l.leads l.heads) (take l.pattern-index l.patterns)
