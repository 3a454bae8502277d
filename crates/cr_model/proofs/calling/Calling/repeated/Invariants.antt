use Rattle.std.proofs.Common.{◌≡◌}
use Rattle.cr_model.specs.Queries.{repeated}
use Rattle.cr_model.proofs.calling.Calling.repeated.Given as goal

abbrev pub invariant-loop-time : goal.invariant-loop-time
invariant-loop-time l = l.all ≡ repeated l._time l.steps
