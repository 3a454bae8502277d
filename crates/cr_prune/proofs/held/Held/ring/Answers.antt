use Rattle.std.proofs.Common.{ap, subst, sym}
use Rattle.cr_prune.specs.Holding.{IsHeld, Rings}
use Rattle.cr_prune.specs.declared.ends.LeadEnd.{LeadEnd}
use Rattle.cr_prune.specs.declared.held.Held.{Held}
use Rattle.cr_prune.specs.declared.held.Held.TheVariants.{Rows}
use Rattle.cr_prune.proofs.Holding.{rings_rows}
use Rattle.cr_prune.proofs.held.Held.ring.Goals as goal

pub returns-in-Rows : goal.returns-in-Rows
returns-in-Rows c p leads held from changes =
    let was = subst (IsHeld p leads) c.in-Rows.is held in
    subst (λ (old : Held). Rings p leads c.args.step old c.ring_lead.result (Rows c.ring_lead.new.stack)) (sym c.in-Rows.is)
    (rings_rows p leads c.args.step c.args.from.head c.args.changes.now c.in-Rows.stack was (ap (λ (e : LeadEnd). e.head) from) changes
    c.ring_lead.new.stack c.ring_lead.result c.ring_lead.ensures.some c.ring_lead.ensures.differ c.ring_lead.ensures.none)
