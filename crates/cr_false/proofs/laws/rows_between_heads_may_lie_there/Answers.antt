use Rattle.cr_false.proofs.Between.{between}
use Rattle.cr_false.proofs.laws.rows_between_heads_may_lie_there.Goals as goal

pub returns : goal.returns
returns c = between
