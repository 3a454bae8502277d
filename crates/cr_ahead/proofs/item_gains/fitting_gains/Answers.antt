-- One entry more.
use Rattle.std.proofs.Common.{◌≡◌, ℕ, ◌+◌, ◌/◌, ◌%◌, ◌<◌, [], length, get_or, ap, ◌∙◌, rules, arith}
use Rattle.std.proofs.lemmas.List.{get_or_default}
use Rattle.std.proofs.lemmas.List.FromFn.{map-range_with_len_more}
use Rattle.std.proofs.lemmas.Nat.{mod_below, div_below}
use Rattle.cr_leads.specs.Tables.{leads_counted}
use Rattle.cr_query.specs.Shapes.{shape_of}
use Rattle.cr_ahead.specs.LeadMoves.{fitting_gain}
use Rattle.cr_ahead.proofs.item_gains.fitting_gains.Goals as goal

pub fitting_gain-requires-clause-step : goal.fitting_gain-requires-clause-step
fitting_gain-requires-clause-step c =
    let low = mod_below c.loop-entry.entry c.from-steps.result (omega (arith, c.from-steps.ensures, c.step_count.ensures.some)) in
    omega (arith, low, c.from-steps.ensures, c.step_count.ensures.is, leads_counted c.args.leads.now c.args.problem.now c.requires.leads)

pub loop-entry-preserved : goal.loop-entry-preserved
loop-entry-preserved c =
    let p = c.args.problem.now in
    let place = c.loop-entry.entry / c.from-steps.result in
    let at : 0 + c.loop-entry.entry ≡ c.loop-entry.entry = omega arith in
    let within : place < length c.args.heads.now =
    div_below c.loop-entry.entry c.from-steps.result (length c.args.heads.now) (omega (arith, c.from-steps.ensures, c.step_count.ensures.some)) (omega (arith, c.loop-entry-test.true, c.loop-entry.auto.entry-end)) in
    let head : c.index-heads-entry.result ≡ get_or c.args.heads.now place [] =
    c.index-heads-entry.is ∙ get_or_default c.args.heads.now place c.index-heads-entry.result [] within in
    let told = c.fitting_gain.ensures p c.args.cells.now c.requires.leads c.requires.cells (c.in_ok-shape.ensures ∙ ap (λ (n : ℕ). shape_of n c.args.cells.now) c.stage.ensures.is) in
    search (rules, told, head, map-range_with_len_more (λ entry. fitting_gain p c.args.cells.now (get_or c.args.heads.now (entry / c.from-steps.result) []) (entry % c.from-steps.result)) 0 c.loop-entry.entry c.loop-entry.entry at)
