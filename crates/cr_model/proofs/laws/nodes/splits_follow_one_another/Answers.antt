use Rattle.cr_model.proofs.Splitting.{not_begun, one_after_another}
use Rattle.cr_model.proofs.laws.nodes.splits_follow_one_another.Goals as goal

pub returns : goal.returns
returns c = record { not_begun = not_begun; onward = one_after_another }
