use Rattle.cr_model.proofs.AmongOthers.{among_others}
use Rattle.cr_model.proofs.laws.nodes.a_split_among_others.Goals as goal

pub returns : goal.returns
returns c = among_others
