use Rattle.cr_model.proofs.Below.{below}
use Rattle.cr_model.proofs.Cuts.{not_round}
use Rattle.cr_model.proofs.laws.dead.nothing_is_kept_below_a_node_that_comes_round.Goals as goal

pub returns : goal.returns
returns c = λ p node sound h calling kept above. not_round p node calling sound (below p node calling sound kept above) h
