use Rattle.cr_board.proofs.Drawn.{board_below, board_once, board_gone}
use Rattle.cr_board.proofs.laws.every_board_has_each_once.Goals as goal

pub returns-clause-touches : goal.returns-clause-touches
returns-clause-touches c = c.each_touch_stands_once.ensures.board c.args.board.now c.journal.ensures.kept

pub returns-clause-numbers : goal.returns-clause-numbers
returns-clause-numbers c = board_once c.args.board.now c.journal.ensures.kept

pub returns-clause-below : goal.returns-clause-below
returns-clause-below c = board_below c.args.board.now c.journal.ensures.kept

pub returns-clause-handed : goal.returns-clause-handed
returns-clause-handed c = board_gone c.args.board.now c.journal.ensures.kept
