use Rattle.cr_model.proofs.Parts.{part_repeated}
use Rattle.cr_model.proofs.laws.nodes.a_touch_is_its_part_repeated.Goals as goal

pub returns : goal.returns
returns c = part_repeated
