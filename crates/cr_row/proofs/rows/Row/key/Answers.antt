use Rattle.std.proofs.Common.{ap, sym, ◌∙◌, length}
use Rattle.cr_row.specs.Packed.{key_of, bells_length, packed_back}
use Rattle.cr_row.proofs.rows.Row.key.Goals as goal

pub returns-clause-is : goal.returns-clause-is
returns-clause-is c = sym (packed_back c.self.inside.stage c.self.inside.bits c.self.invariant.fits) ∙ ap key_of c.self.view_is

pub returns-clause-fits : goal.returns-clause-fits
returns-clause-fits c = rw (sym (ap length c.self.view_is) ∙ bells_length c.self.inside.stage c.self.inside.bits) c.self.invariant.fits
