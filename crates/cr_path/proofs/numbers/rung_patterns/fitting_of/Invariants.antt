use Rattle.std.proofs.Common.{◌≡◌, take}
use Rattle.std.specs.Prelude.{flat_map}
use Rattle.cr_path.specs.Numbers.{leads_fitting}
use Rattle.cr_path.proofs.numbers.rung_patterns.fitting_of.Given as goal

abbrev pub invariant-loop-head : goal.invariant-loop-head
invariant-loop-head l = l.numbers.items ≡ flat_map (leads_fitting l.leads l.pattern.cells) (take l.head-index l.heads)
