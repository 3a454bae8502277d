use Rattle.std.proofs.Common.{◌≡◌, false, take}
use Rattle.std.specs.List.{list_any}
use Rattle.cr_query.specs.Gauges.{is_out, raised}
use Rattle.cr_query.specs.Tallies.{gauges_at}
use Rattle.cr_query.proofs.tallies.some_out.Given as goal

abbrev pub invariant-loop-tally : goal.invariant-loop-tally
invariant-loop-tally l = list_any (λ gauge. is_out l.more (raised l.of gauge)) (gauges_at l.front (take l.tally-index l.tallies)) ≡ false
