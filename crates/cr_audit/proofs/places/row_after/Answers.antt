use Rattle.std.proofs.Common.{◌∙◌}
use Rattle.cr_audit.proofs.RowPlaces.{row_at_change}
use Rattle.cr_audit.proofs.places.row_after.Goals as goal

pub returns : goal.returns
returns c = c.last_after.ensures ∙ row_at_change c.args.from c.args.changes.now c.args.index c.requires.index
