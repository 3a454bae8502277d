use Rattle.std.proofs.Common.{◌≡◌, ◌-◌}
use Rattle.std.specs.List.{range_with_len}
use Rattle.cr_model.specs.ProblemFiles.{bell_cell}
use Rattle.cr_read.proofs.query.bell_cell.Given as goal

abbrev pub invariant-loop-bell : goal.invariant-loop-bell
invariant-loop-bell l = bell_cell (range_with_len l.bell (17 - l.bell)) l.byte ≡ bell_cell (range_with_len 1 16) l.byte
