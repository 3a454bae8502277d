use Rattle.cr_row.proofs.ChangeLaws.{changed_twice}
use Rattle.cr_row.proofs.laws.change_twice.Goals as goal

pub returns : goal.returns
returns c = λ change r. changed_twice change.made 1 r
