use Rattle.std.proofs.Common.{◌≡◌, ◌<◌, length, get_or, sym, ap, ◌∙◌, subst, arith}
use Rattle.std.specs.List.{All}
use Rattle.std.proofs.lemmas.List.Elements.{All-weaker}
use Rattle.cr_row.specs.Rows.{Places, IsChange}
use Rattle.cr_model.specs.Callings.{changes_of, changes_at_is}
use Rattle.cr_model.specs.Right.{AreOfStage}
use Rattle.cr_model.specs.Sound.{sound_leads}
use Rattle.cr_leads.specs.Tables.{IsTable, lead_table, table_from}
use Rattle.cr_leads.specs.Spans.{leads_in}
use Rattle.cr_leads.proofs.SoundTables.{sound_table, table_more, whole_table}
use Rattle.cr_leads.proofs.table.LeadTable.new.Goals as goal

pub lay-requires-clause-staged : goal.lay-requires-clause-staged
lay-requires-clause-staged c =
    let p = c.args.problem.now in
    let index = c.loop-lead.lead-index in
    let within : index < length p.leads =
    subst (λ leads. index < length leads) c.leads-leads.ensures.is (omega arith) in
    let at : c.lead-item.result ≡ get_or p.leads index c.lead-item.result =
    c.lead-item.is ∙ ap (λ leads. get_or leads index c.lead-item.result) c.leads-leads.ensures.is in
    let changes : c.deref.result.now ≡ changes_of p index =
    c.deref.ensures.value ∙ ap (λ lead. lead.changes) c.lead.view_is ∙ changes_at_is p.leads index c.lead-item.result within at in
    let right : AreOfStage p.stage (changes_of p index) =
    ((sound_leads p c.stage-stage.ensures.sound).each index within).changes in
    subst (λ list. All (λ (change : Places). change.stage ≡ c.stage-stage.result) list) (sym changes)
    (All-weaker (λ (change : Places). (change.stage ≡ p.stage) × IsChange change) (λ (change : Places). change.stage ≡ c.stage-stage.result)
    (λ change h. h.0 ∙ sym c.stage-stage.ensures.is) (changes_of p index) right.each)

pub loop-lead-preserved : goal.loop-lead-preserved
loop-lead-preserved c =
    let p = c.args.problem.now in
    let index = c.loop-lead.lead-index in
    let within : index < length p.leads =
    subst (λ leads. index < length leads) c.leads-leads.ensures.is (omega arith) in
    let at : c.lead-item.result ≡ get_or p.leads index c.lead-item.result =
    c.lead-item.is ∙ ap (λ leads. get_or leads index c.lead-item.result) c.leads-leads.ensures.is in
    let changes : c.deref.result.now ≡ changes_of p index =
    c.deref.ensures.value ∙ ap (λ lead. lead.changes) c.lead.view_is ∙ changes_at_is p.leads index c.lead-item.result within at in
    record {
      within = c.in_ok-lay.ensures.within;
      leads = table_more p index c.stage-stage.result c.deref.result.now _ _ c.stage-stage.ensures.is changes c.loop-lead.invariant.leads c.in_ok-lay.ensures.leads;
    }

pub invariant_of-result : goal.invariant_of-result
invariant_of-result c =
    let p = c.args.problem.now in
    let index = c.loop-lead.lead-index in
    let all : index ≡ length p.leads = subst (λ leads. index ≡ length leads) c.leads-leads.ensures.is (omega arith) in
    let is : table_from c.stage-stage.result (leads_in c.loop-lead.rows.items c.loop-lead.spans.items) ≡ lead_table p =
    whole_table p index c.stage-stage.result (leads_in c.loop-lead.rows.items c.loop-lead.spans.items) c.stage-stage.ensures.is all c.loop-lead.invariant.leads in
    record {
      table = subst IsTable (sym is) (sound_table c.change_of_a_row.ensures.row c.change_of_a_row.ensures.same_length
          c.rounds_is_neutral.ensures.row c.rounds_is_neutral.ensures.length p c.stage-stage.ensures.sound);
      within = c.loop-lead.invariant.within;
    }

pub returns : goal.returns
returns c =
    let p = c.args.problem.now in
    let index = c.loop-lead.lead-index in
    let all : index ≡ length p.leads = subst (λ leads. index ≡ length leads) c.leads-leads.ensures.is (omega arith) in
    whole_table p index c.stage-stage.result (leads_in c.loop-lead.rows.items c.loop-lead.spans.items) c.stage-stage.ensures.is all c.loop-lead.invariant.leads
