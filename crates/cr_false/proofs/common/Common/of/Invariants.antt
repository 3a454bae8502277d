use Rattle.std.proofs.Common.{◌≤◌}
use Rattle.cr_false.proofs.SomeRows.{AreHome}
use Rattle.cr_false.proofs.common.Common.of.Given as goal

abbrev pub invariant-loop-bell : goal.invariant-loop-bell
invariant-loop-bell l = record {
  low : 1 ≤ l.bell;
  home : AreHome l.leads l.bells.items;
}
