use Rattle.cr_log.proofs.OneFirst.{one_first}
use Rattle.cr_log.proofs.laws.a_node_has_one_first_verdict.Goals as goal

pub returns : goal.returns
returns c = one_first
