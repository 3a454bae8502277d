use Rattle.std.proofs.Common.{ℕ, ◌<◌, [], get_or}
use Rattle.cr_false.specs.Telling.{HasFalse}
use Rattle.cr_false.proofs.told_apart.has_all.Given as goal

abbrev pub invariant-loop-other : goal.invariant-loop-other
invariant-loop-other l = (i : ℕ) → i < l.other-index → HasFalse l.set.rows l.rows (get_or l.others i []) l.common.bells.items l.common.even
