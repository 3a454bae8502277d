use Rattle.std.proofs.Common.{append_assoc}
use Rattle.cr_read.proofs.keys.item_path.Goals as goal

pub returns : goal.returns
returns c = simp append_assoc c.format.ensures.ok
