use Rattle.cr_model.proofs.Counting.{split_covers}
use Rattle.cr_model.proofs.laws.nodes.a_split_covers_the_same.Goals as goal

pub returns : goal.returns
returns c = split_covers
