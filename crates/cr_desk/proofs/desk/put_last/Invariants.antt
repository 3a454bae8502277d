use Rattle.std.proofs.Common.{◌≡◌}
use Rattle.cr_desk.proofs.desk.put_last.Given as goal

abbrev pub invariant-loop-job : goal.invariant-loop-job
invariant-loop-job g l = g.H.Hints.key l.hints ≡ g.H.Hints.key l.fn.hints
