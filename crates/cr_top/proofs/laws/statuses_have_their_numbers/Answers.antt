use Rattle.std.proofs.Common.{refl}
use Rattle.cr_top.proofs.laws.statuses_have_their_numbers.Goals as goal

pub returns : goal.returns
returns c = refl
