use Rattle.std.proofs.Common.{◌≡◌, take}
use Rattle.cr_path.proofs.numbers.growing.rows_of.Given as goal

abbrev pub invariant-loop-place : goal.invariant-loop-place
invariant-loop-place l = l.rows.items ≡ take l.place l.stack.rows
