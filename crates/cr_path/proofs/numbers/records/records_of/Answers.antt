use Rattle.std.proofs.Common.{◌≡◌, ◌<◌, ℕ, List, length, get_or, arith, subst}
use Rattle.std.proofs.lemmas.List.{get_or_default}
use Rattle.cr_path.specs.Representatives.{AreLike}
use Rattle.cr_path.specs.declared.numbers.rung_leads.RungLead.{RungLead}
use Rattle.cr_path.proofs.Names.{no_lead}
use Rattle.cr_path.proofs.Padding.{like_more}
use Rattle.cr_path.proofs.numbers.records.records_of.Goals as goal

pub loop-lead-preserved : goal.loop-lead-preserved
loop-lead-preserved c =
    let rung : List RungLead = c.args.rung.now in
    let index : ℕ = c.loop-lead.lead-index in
    let one : RungLead = get_or rung index no_lead in
    let inside : index < length rung = omega (arith, c.loop-lead-test.true) in
    like_more c.args.steps c.args.round_heads.now rung c.loop-lead.leads.items c.push.new.self.items index one c.in_ok-record_of.field-0
    c.loop-lead.invariant inside (get_or_default rung index no_lead one inside) c.in_ok-record_of.ensures c.in_ok-push.ensures.items

pub returns : goal.returns
returns c =
    let all : c.loop-lead.lead-index ≡ length c.args.rung.now = omega (arith, c.loop-lead-test.false, c.loop-lead.auto.lead-index-end) in
    subst (λ n. AreLike c.args.steps c.args.round_heads.now c.args.rung.now c.loop-lead.leads.items n) all c.loop-lead.invariant
