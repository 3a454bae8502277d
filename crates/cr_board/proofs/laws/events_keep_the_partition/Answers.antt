use Rattle.cr_board.proofs.Openings.{opened_is}
use Rattle.cr_board.proofs.Events.{after_event, after_events}
use Rattle.cr_board.proofs.laws.events_keep_the_partition.Goals as goal

pub returns-clause-event : goal.returns-clause-event
returns-clause-event c = after_event c.a_split_among_others.ensures

pub returns-clause-events : goal.returns-clause-events
returns-clause-events c = after_events c.a_split_among_others.ensures

pub returns-clause-opened : goal.returns-clause-opened
returns-clause-opened c = opened_is
