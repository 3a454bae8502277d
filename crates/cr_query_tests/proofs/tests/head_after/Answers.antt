use Rattle.std.proofs.Common.{sym, subst}
use Rattle.cr_leads.specs.Tables.{leads_known}
use Rattle.cr_model.specs.Callings.{HasSteps}
use Rattle.cr_query_tests.proofs.tests.head_after.Goals as goal

pub head_after-requires : goal.head_after-requires
head_after-requires c =
    leads_known c.args.leads.now c.args.problem.now c.in_ok-calling.calling c.requires.table
    (subst (HasSteps c.args.problem.now) (sym c.in_ok-calling.ensures) c.requires.steps)
