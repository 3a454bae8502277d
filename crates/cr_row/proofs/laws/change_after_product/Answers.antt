use Rattle.cr_row.proofs.ChangeLaws.{changed-product}
use Rattle.cr_row.proofs.laws.change_after_product.Goals as goal

pub returns : goal.returns
returns c = λ change h r. changed-product h change.made 1 r
