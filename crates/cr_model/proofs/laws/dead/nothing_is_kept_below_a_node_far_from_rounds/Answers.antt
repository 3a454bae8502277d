use Rattle.cr_model.proofs.Below.{below}
use Rattle.cr_model.proofs.Cuts.{not_far}
use Rattle.cr_model.proofs.laws.dead.nothing_is_kept_below_a_node_far_from_rounds.Goals as goal

pub returns : goal.returns
returns c = λ p most node sound h calling kept above. not_far p node calling sound (below p node calling sound kept above) c.change_twice.ensures most h
