use Rattle.cr_row.proofs.RowLaws.{product_left, product_right}
use Rattle.cr_row.proofs.laws.rows_cancel.Goals as goal

pub returns-clause-left : goal.returns-clause-left
returns-clause-left c = λ h r s whole one two long same e. product_left h r s whole one two long same e

pub returns-clause-right : goal.returns-clause-right
returns-clause-right c = λ g h r row long same e. product_right g h r row long same e
