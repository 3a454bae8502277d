use Rattle.std.proofs.Common.{length, ap, arith}
use Rattle.cr_leads.specs.Tables.{leads_counted}
use Rattle.cr_model.specs.Problems.{ProblemParts}
use Rattle.cr_query_tests.proofs.tests.add.Goals as goal

pub add_counted-requires-clause-step : goal.add_counted-requires-clause-step
add_counted-requires-clause-step c =
    omega (arith, c.requires.step, leads_counted c.args.leads.now c.args.problem.now c.requires.table, ap (λ (p : ProblemParts). length p.leads) c.requires.same)

pub add_lead-requires-clause-step : goal.add_lead-requires-clause-step
add_lead-requires-clause-step c =
    omega (arith, c.requires.step, leads_counted c.args.leads.now c.args.problem.now c.requires.table, ap (λ (p : ProblemParts). length p.leads) c.requires.same)
