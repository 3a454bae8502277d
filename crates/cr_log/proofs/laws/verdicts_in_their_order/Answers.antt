use Rattle.std.proofs.Common.{refl}
use Rattle.cr_log.proofs.laws.verdicts_in_their_order.Goals as goal

pub returns : goal.returns
returns c = refl
