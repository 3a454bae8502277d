use Rattle.cr_model.proofs.Below.{below}
use Rattle.cr_model.proofs.Cuts.{not_again}
use Rattle.cr_model.proofs.laws.dead.nothing_is_kept_below_a_node_with_a_row_twice.Goals as goal

pub returns : goal.returns
returns c = λ p node sound h calling kept above. not_again p node calling sound (below p node calling sound kept above) h
