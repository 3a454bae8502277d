use Rattle.cr_board.proofs.Drawn.{stay_below, drawn_above, stays_gone, handed_gone, events_go}
use Rattle.cr_board.proofs.laws.no_number_is_drawn_twice.Goals as goal

pub returns-clause-below : goal.returns-clause-below
returns-clause-below c = λ o before more number some. stay_below o some before more number

pub returns-clause-drawn : goal.returns-clause-drawn
returns-clause-drawn c = λ o before more entry old number some. drawn_above o some before more entry old number

pub returns-clause-gone : goal.returns-clause-gone
returns-clause-gone c = λ o before more later number some. stays_gone o some before more later number

pub returns-clause-handed : goal.returns-clause-handed
returns-clause-handed c = λ o before later worker job used touches opened some. handed_gone o some before later worker job used touches opened

pub returns-clause-events : goal.returns-clause-events
returns-clause-events c = λ b after events number kept ran. (events_go c.a_split_among_others.ensures b after events kept ran).old number

pub returns-clause-next : goal.returns-clause-next
returns-clause-next c = λ b after events kept ran. (events_go c.a_split_among_others.ensures b after events kept ran).next
