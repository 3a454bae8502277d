use Rattle.std.proofs.Common.{ap, ◌∙◌}
use Rattle.cr_model.specs.Callings.{rows_of}
use Rattle.cr_leads.proofs.Touches.{told}
use Rattle.cr_leads.proofs.table.LeadTable.ring.Goals as goal

pub returns-clause-is : goal.returns-clause-is
returns-clause-is c = λ p is.
    told c.args.self.now p c.args.calling.now _ c.stage.ensures.sound is c.requires
    (c.in_ok-rows.ensures.is p is ∙ ap (rows_of p) c.steps.ensures.is)
    (rw (c.deref.ensures.value, c.stage.ensures.is) at c.ends_in_rounds-round.ensures)
    (rw c.deref-2.ensures.value at c.in_ok-distinct.ensures)

pub rows_differ-requires : goal.rows_differ-requires
rows_differ-requires c = (c.args.self.now.stage, c.stage.ensures.sound.to, rw c.deref-2.ensures.value c.in_ok-rows.ensures.rows)
