use Rattle.std.proofs.Common.{◌≡◌, length, sym, ap, ◌∙◌, arith}
use Rattle.cr_leads.specs.Tables.{leads_counted}
use Rattle.cr_model.specs.Callings.{head_of}
use Rattle.cr_model.specs.Sizes.{child}
use Rattle.cr_query.specs.Meters.{MeterParts, meter_from, parent}
use Rattle.cr_query.proofs.Moves.{parent_of_child}
use Rattle.cr_query_tests.proofs.tests.told_at.Goals as goal

pub back-requires-clause-head : goal.back-requires-clause-head
back-requires-clause-head c =
    let p = c.args.problem.now in
    let now : c.add.new.meter ≡ meter_from p (child c.args.node.now c.args.step) =
    c.in_ok-add.ensures ∙ ap (λ (m : MeterParts). meter_from p (child m.node c.args.step)) c.in_ok-meter.ensures in
    c.in_ok-head.ensures.is
    ∙ ap (head_of p) (sym (parent_of_child c.args.node.now c.args.step))
    ∙ sym (ap (λ (m : MeterParts). head_of m.problem (parent m.node)) now)

pub is_hopeless_with-by_leads-requires : goal.is_hopeless_with-by_leads-requires
is_hopeless_with-by_leads-requires c =
    omega (arith, c.requires.step, leads_counted c.args.leads.now c.args.problem.now c.requires.table, ap (λ (m : MeterParts). length m.problem.leads) c.in_ok-meter.ensures)
