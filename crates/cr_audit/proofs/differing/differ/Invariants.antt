use Rattle.std.proofs.Common.{◌≡◌, length, take}
use Rattle.cr_model.specs.Callings.{AllDiffer}
use Rattle.cr_audit.specs.Marks.{AreMarked, bucket_count}
use Rattle.cr_audit.proofs.differing.differ.Given as goal

-- the buckets of the rows so far have the mark, and these rows differ
abbrev pub invariant-loop-place : goal.invariant-loop-place
invariant-loop-place l = record {
  same : length l.at ≡ bucket_count;
  marked : AreMarked l.at l.mark (take l.place l.rows);
  differ : AllDiffer (take l.place l.rows);
}
