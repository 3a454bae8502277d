use Rattle.std.proofs.Common.{take, All}
use Rattle.cr_query.specs.Gauges.{IsIn}
use Rattle.cr_query.specs.Tallies.{gauges_at}
use Rattle.cr_query.proofs.tallies.all_in.Given as goal

abbrev pub invariant-loop-index : goal.invariant-loop-index
invariant-loop-index l = All IsIn (gauges_at l.front (take l.index l.tallies))
