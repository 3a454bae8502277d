use Rattle.cr_trail.proofs.Cutting.{tells_last}
use Rattle.cr_trail.proofs.laws.a_cut_has_its_last_whole_block.Goals as goal

pub returns : goal.returns
returns c = tells_last c.each_place_has_one_answer.ensures
