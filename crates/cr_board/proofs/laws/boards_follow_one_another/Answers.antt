use Rattle.cr_board.proofs.Once.{boards_part, boards_filled}
use Rattle.cr_board.proofs.laws.boards_follow_one_another.Goals as goal

pub returns : goal.returns
returns c = record { partition = boards_part; filled = boards_filled }
