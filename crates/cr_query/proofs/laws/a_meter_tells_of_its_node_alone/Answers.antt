use Rattle.cr_query.proofs.Moves.{told_afresh}
use Rattle.cr_query.proofs.laws.a_meter_tells_of_its_node_alone.Goals as goal

pub returns : goal.returns
returns c = told_afresh
