use Rattle.cr_board.proofs.Entries.{empty_ends}
use Rattle.cr_board.proofs.laws.an_empty_board_is_done.Goals as goal

pub returns : goal.returns
returns c = λ b worker shape. empty_ends b shape worker
