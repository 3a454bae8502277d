use Rattle.std.proofs.Common.{◌∙◌, ap}
use Rattle.cr_row.specs.Rows.{product}
use Rattle.cr_leads.specs.Tables.{TableParts}
use Rattle.cr_prune.proofs.Clashes.{last_moved}
use Rattle.cr_prune.proofs.walk.head_after.Goals as goal

pub returns-clause-last : goal.returns-clause-last
returns-clause-last c p is =
    c.times.ensures.is ∙ ap (product c.args.head) (c.head_of.ensures.of_problem p is)
    ∙ last_moved p c.args.step c.args.head (c.requires.same_stage ∙ ap (λ (t : TableParts). t.stage) is)
