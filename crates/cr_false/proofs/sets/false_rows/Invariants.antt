use Rattle.std.proofs.Common.{◌≡◌, take}
use Rattle.cr_false.specs.Sets.{IsFalse, IsSetOf}
use Rattle.cr_false.proofs.sets.false_rows.Given as goal

abbrev pub invariant-loop-other : goal.invariant-loop-other
invariant-loop-other l = record {
  set : IsSetOf (IsFalse l.rows (take l.other-index l.others)) l.set.rows;
  room : l.set.room ≡ l.room;
}
