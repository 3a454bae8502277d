use Rattle.cr_row.proofs.RowLaws.{inverse_right, inverse_left}
use Rattle.cr_row.proofs.laws.inverse_on_one_side.Goals as goal

pub returns-clause-right : goal.returns-clause-right
returns-clause-right c = inverse_right

pub returns-clause-left : goal.returns-clause-left
returns-clause-left c = inverse_left
