use Rattle.cr_path.proofs.NextHeads.{plain_are, called_are, exchanged_are_none, turned_are_none}
use Rattle.cr_path.proofs.laws.heads_lead_to_heads.Goals as goal

pub returns : goal.returns
returns c = record { plain = plain_are; exchanged = exchanged_are_none; by_head = called_are; by_step = turned_are_none }
