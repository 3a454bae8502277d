use Rattle.cr_explore.proofs.Turning.{last_taken, none_taken}
use Rattle.cr_explore.proofs.laws.a_turn_takes_the_last_node.Goals as goal

pub returns : goal.returns
returns c = record { some = last_taken; none = none_taken }
