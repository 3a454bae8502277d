use Rattle.cr_board.proofs.Replaying.{opened_replayed}
use Rattle.cr_board.proofs.ReplayFacts.{number_once, budget_kept}
use Rattle.cr_board.proofs.laws.journals_tell_boards.Goals as goal

pub returns-clause-opened : goal.returns-clause-opened
returns-clause-opened c = opened_replayed

pub returns-clause-numbers : goal.returns-clause-numbers
returns-clause-numbers c = number_once

pub returns-clause-budget : goal.returns-clause-budget
returns-clause-budget c = budget_kept
