use Rattle.cr_ahead.proofs.LeadMoves.{none_told, refused}
use Rattle.cr_ahead.proofs.laws.lead_moves.answers_tell_what_cannot_come.Goals as goal

pub returns : goal.returns
returns c = record { no_way = none_told; item = refused }
