use Rattle.cr_board.proofs.Keeping.{open_keeps, event_keeps, events_keep}
use Rattle.cr_board.proofs.laws.events_keep_what_a_board_keeps.Goals as goal

pub returns-clause-opened : goal.returns-clause-opened
returns-clause-opened c = open_keeps

pub returns-clause-event : goal.returns-clause-event
returns-clause-event c = event_keeps c.a_split_among_others.ensures

pub returns-clause-events : goal.returns-clause-events
returns-clause-events c = events_keep c.a_split_among_others.ensures
