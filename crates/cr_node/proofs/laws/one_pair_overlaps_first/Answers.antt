use Rattle.cr_node.proofs.Pairs.{one_pair, no_pair}
use Rattle.cr_node.proofs.laws.one_pair_overlaps_first.Goals as goal

pub returns : goal.returns
returns c = record { one = one_pair; none = no_pair }
