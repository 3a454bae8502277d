use Rattle.cr_board.proofs.Events.{chained}
use Rattle.cr_board.proofs.laws.events_chain.Goals as goal

pub returns : goal.returns
returns c = chained
