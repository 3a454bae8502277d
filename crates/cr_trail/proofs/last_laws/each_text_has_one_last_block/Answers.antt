use Rattle.cr_trail.proofs.OneLast.{one_last}
use Rattle.cr_trail.proofs.last_laws.each_text_has_one_last_block.Goals as goal

pub returns : goal.returns
returns c = λ text one other. one_last c.each_place_has_one_answer.ensures text one other
