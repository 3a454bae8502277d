use Rattle.std.specs.List.{AllZip, range_with_len}
use Rattle.cr_false.specs.Sets.{TellsTwice}
use Rattle.cr_false.proofs.twice.leads_with_twice.Given as goal

abbrev pub invariant-loop-step : goal.invariant-loop-step
invariant-loop-step l = AllZip (TellsTwice l.leads) (range_with_len 0 l.step) l.twice.items
