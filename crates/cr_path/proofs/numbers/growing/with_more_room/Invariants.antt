use Rattle.cr_path.proofs.Grown.{AreCopied}
use Rattle.cr_path.proofs.numbers.growing.with_more_room.Given as goal

abbrev pub invariant-loop-place : goal.invariant-loop-place
invariant-loop-place l = AreCopied l.rows.rows l.len l.place l.more
