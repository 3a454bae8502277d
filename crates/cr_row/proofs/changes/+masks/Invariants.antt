use Rattle.std.proofs.Common.{◌+◌, ◌-◌}
use Rattle.cr_row.proofs.changes.+masks.Given as goal

abbrev pub decreases-masks : goal.decreases-masks
decreases-masks l = l.stage + 1 - l.place
