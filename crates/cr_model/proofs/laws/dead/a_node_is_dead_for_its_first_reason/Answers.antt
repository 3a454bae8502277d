use Rattle.cr_model.proofs.DeadNodes.{first_reason, no_reason}
use Rattle.cr_model.proofs.laws.dead.a_node_is_dead_for_its_first_reason.Goals as goal

pub returns : goal.returns
returns c = record { some = first_reason; none = λ p most node why h. no_reason p most node h why }
