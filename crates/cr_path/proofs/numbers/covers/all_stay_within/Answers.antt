use Rattle.std.proofs.Common.{refl, arith, subst}
use Rattle.std.specs.Prelude.{All}
use Rattle.std.proofs.lemmas.List.{take_all}
use Rattle.std.proofs.lemmas.List.Elements.{All-more}
use Rattle.cr_path.specs.Covers.{StaysWithin}
use Rattle.cr_path.specs.Rung.{rung_numbers}
use Rattle.cr_path.specs.declared.numbers.rung_leads.RungLead.{RungLead}
use Rattle.cr_path.proofs.numbers.covers.all_stay_within.Goals as goal

pub loop-lead-preserved : goal.loop-lead-preserved
loop-lead-preserved c =
    let stays = c.stays_within.ensures.0 c.if-not-stays_within.false in
    All-more (λ (lead : RungLead). StaysWithin c.args.cover.now (rung_numbers c.args.numbers.now lead)) c.args.leads.now c.loop-lead.lead-index _
    (omega (arith, c.loop-lead-test.true)) c.loop-lead.invariant (subst (StaysWithin c.args.cover.now) c.numbers_in.ensures stays)

pub returns : goal.returns
returns c = (
  λ holds. subst (All (λ (lead : RungLead). StaysWithin c.args.cover.now (rung_numbers c.args.numbers.now lead)))
      (take_all c.loop-lead.lead-index c.args.leads.now c.loop-lead-test.false) c.loop-lead.invariant,
  λ all. refl,
)
