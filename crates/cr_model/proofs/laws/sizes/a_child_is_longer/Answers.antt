use Rattle.cr_model.proofs.Sizing.{child_longer, child_valid}
use Rattle.cr_model.proofs.laws.sizes.a_child_is_longer.Goals as goal

pub returns : goal.returns
returns c = record { longer = child_longer; valid = λ p most node step sound valid inside live. child_valid p most sound node step valid inside live }
