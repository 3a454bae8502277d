use Rattle.cr_row.proofs.RowLaws.{IsRow-product}
use Rattle.cr_row.proofs.laws.product_of_rows.Goals as goal

pub returns-clause-row : goal.returns-clause-row
returns-clause-row c = λ h r one two same. IsRow-product h r one two same
