use Rattle.std.proofs.Common.{◌<◌, length, sym, subst, arith}
use Rattle.std.proofs.lemmas.List.Elements.{All-take}
use Rattle.cr_leads.specs.Tables.{leads_counted, leads_known}
use Rattle.cr_model.specs.Callings.{HasSteps}
use Rattle.cr_query_tests.proofs.tests.lead_to.Goals as goal

pub head_after-head-requires : goal.head_after-head-requires
head_after-head-requires c =
    let p = c.args.problem.now in
    let known = All-take (λ step. step < length p.leads) c.loop-index.index c.args.node.now c.requires.steps in
    leads_known c.args.leads.now p c.in_ok-front.front c.requires.table (subst (HasSteps p) (sym c.in_ok-front.ensures) known)

pub add-requires-clause-step : goal.add-requires-clause-step
add-requires-clause-step c =
    let known = c.requires.steps c.loop-index.index 0 (omega arith) in
    omega (arith, known, leads_counted c.args.leads.now c.args.problem.now c.requires.table)
