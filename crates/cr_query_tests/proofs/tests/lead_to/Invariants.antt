use Rattle.std.proofs.Common.{◌≡◌, take}
use Rattle.cr_query_tests.proofs.tests.lead_to.Given as goal

abbrev pub invariant-loop-index : goal.invariant-loop-index
invariant-loop-index l = (l.meter.problem ≡ l.problem) × (l.meter.node ≡ take l.index l.node)
