use Rattle.cr_row.proofs.RowLaws.{IsRow-rounds, length-rounds, product-rounds, rounds-product}
use Rattle.cr_row.proofs.laws.rounds_is_neutral.Goals as goal

pub returns-clause-row : goal.returns-clause-row
returns-clause-row c = λ n. IsRow-rounds n

pub returns-clause-right : goal.returns-clause-right
returns-clause-right c = λ h. product-rounds h

pub returns-clause-left : goal.returns-clause-left
returns-clause-left c = λ r row. rounds-product r row

pub returns-clause-length : goal.returns-clause-length
returns-clause-length c = length-rounds
