use Rattle.cr_board.specs.Boards.{opened}
use Rattle.cr_board.proofs.Keeping.{open_keeps, events_keep, opening_kept}
use Rattle.cr_board.proofs.Once.{at_most_once, parts_once, board_once, board_from_once, boards_once}
use Rattle.cr_board.proofs.laws.each_touch_stands_once.Goals as goal

pub returns-clause-at_first : goal.returns-clause-at_first
returns-clause-at_first c = λ p found nodes calling ascending apart. at_most_once p found nodes ascending apart calling

pub returns-clause-parts : goal.returns-clause-parts
returns-clause-parts c = parts_once c.covers_are_counted.ensures

pub returns-clause-board : goal.returns-clause-board
returns-clause-board c = board_once c.covers_are_counted.ensures

pub returns-clause-events : goal.returns-clause-events
returns-clause-events c = λ o after events is ran.
    board_from_once c.covers_are_counted.ensures o after (opening_kept (opened o) after events ran)
    (events_keep c.a_split_among_others.ensures (opened o) after events (open_keeps o is) ran)

pub returns-clause-boards : goal.returns-clause-boards
returns-clause-boards c = boards_once c.covers_are_counted.ensures
