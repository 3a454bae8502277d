use Rattle.cr_ahead.proofs.LeadMoves.{is_home, home_is}
use Rattle.cr_ahead.proofs.laws.lead_moves.moves_go_the_ways_home.Goals as goal

pub returns : goal.returns
returns c = λ p heads m place node way sound moves at. (is_home p heads m place node sound moves at way, home_is p heads m place node sound moves at way)
