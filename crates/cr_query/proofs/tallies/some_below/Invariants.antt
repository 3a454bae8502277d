use Rattle.std.proofs.Common.{◌≡◌, false, take}
use Rattle.std.specs.List.{list_any}
use Rattle.cr_query.specs.Gauges.{is_below}
use Rattle.cr_query.specs.Tallies.{gauges_at}
use Rattle.cr_query.proofs.tallies.some_below.Given as goal

abbrev pub invariant-loop-tally : goal.invariant-loop-tally
invariant-loop-tally l = list_any (is_below l.more) (gauges_at l.front (take l.tally-index l.tallies)) ≡ false
