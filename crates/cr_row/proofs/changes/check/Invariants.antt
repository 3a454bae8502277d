use Rattle.std.proofs.Common.{drop}
use Rattle.cr_row.proofs.CheckedPlaces.{Checked}
use Rattle.cr_row.proofs.changes.check.Given as goal

abbrev pub invariant-loop-place : goal.invariant-loop-place
invariant-loop-place l = Checked l.stage l.before (drop l.place-index l.places) l.places
