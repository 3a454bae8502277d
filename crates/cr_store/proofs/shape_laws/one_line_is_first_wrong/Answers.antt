use Rattle.cr_store.proofs.ShapeLaws.{one_line}
use Rattle.cr_store.proofs.shape_laws.one_line_is_first_wrong.Goals as goal

pub returns : goal.returns
returns c = λ text one other first second. one_line text one other first second
