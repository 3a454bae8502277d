use Rattle.cr_board.proofs.Stale.{stale_tells}
use Rattle.cr_board.proofs.laws.stale_numbers_stand_nowhere.Goals as goal

pub returns : goal.returns
returns c = stale_tells
