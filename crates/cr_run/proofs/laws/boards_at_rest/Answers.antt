use Rattle.cr_run.proofs.Ending.{all_free, none_hold}
use Rattle.cr_run.proofs.laws.boards_at_rest.Goals as goal

pub returns-clause-opened_idle : goal.returns-clause-opened_idle
returns-clause-opened_idle c = λ o. none_hold o.workers

pub returns-clause-recalled_idle : goal.returns-clause-recalled_idle
returns-clause-recalled_idle c = λ b shape. all_free _ (c.a_recall_gives_all_back.ensures.held b shape)
