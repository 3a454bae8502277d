use Rattle.cr_model.proofs.Prefixes.{prefix_iff}
use Rattle.cr_model.proofs.laws.nodes.prefixes.Goals as goal

pub returns : goal.returns
returns c = prefix_iff
