use Rattle.std.proofs.Common.{List, ℕ, ap, ◌∙◌}
use Rattle.cr_model.specs.Levels.{is_listed}
use Rattle.cr_path.proofs.Rounds.{lead_has_round}
use Rattle.cr_path.proofs.numbers.leads.Leads.has_round.Goals as goal

pub returns : goal.returns
returns c head reached undoes =
    c.has_row.ensures ∙ ap (λ (rows : List (List ℕ)). is_listed rows c.args.inverse.now) c.rows_of.ensures.is
    ∙ lead_has_round c.args.self.now head c.args.inverse.now reached undoes c.args.step
