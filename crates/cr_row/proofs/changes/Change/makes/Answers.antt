use Rattle.cr_row.proofs.Masking.{made_read}
use Rattle.cr_row.proofs.changes.Change.makes.Goals as goal

pub returns : goal.returns
returns c = made_read c.args.self.now c.self.inside.stage c.self.inside.stay c.args.place c.self.view_is c.requires.from c.requires.to
