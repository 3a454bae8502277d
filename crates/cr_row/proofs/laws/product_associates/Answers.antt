use Rattle.cr_row.proofs.RowLaws.{product_assoc}
use Rattle.cr_row.proofs.laws.product_associates.Goals as goal

pub returns : goal.returns
returns c = λ g h r row same. product_assoc g h r row same
