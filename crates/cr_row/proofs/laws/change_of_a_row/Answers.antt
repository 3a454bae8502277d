use Rattle.cr_row.proofs.ChangeLaws.{IsRow-changed, length-changed}
use Rattle.cr_row.proofs.laws.change_of_a_row.Goals as goal

pub returns-clause-row : goal.returns-clause-row
returns-clause-row c = λ change r row. IsRow-changed change.made r row

pub returns-clause-same_length : goal.returns-clause-same_length
returns-clause-same_length c = λ change r. length-changed change.made 1 r
