use Rattle.cr_ahead.proofs.LeadMoves.{changes_in_parts}
use Rattle.cr_ahead.proofs.laws.lead_moves.changes_of_method_in_parts.Goals as goal

pub returns : goal.returns
returns c = λ p heads m place node way methods sound moves at known last have is. changes_in_parts p heads m place node sound moves at methods known last have way is
