use Rattle.std.proofs.Common.{◌≡◌, map, take}
use Rattle.cr_query.specs.Meters.{letter_gauge}
use Rattle.cr_query.specs.Tallies.{gauges_at}
use Rattle.cr_query.proofs.compiling.letters_of.Given as goal

abbrev pub invariant-loop-count : goal.invariant-loop-count
invariant-loop-count l = gauges_at 0 l.tallies.items ≡ map (letter_gauge l.parts 0) (take l.count-index l.counts)
