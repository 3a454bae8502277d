use Rattle.cr_store.proofs.ShapeLaws.{found_line_is}
use Rattle.cr_store.proofs.shape_laws.found_stands_on_its_line.Goals as goal

pub returns : goal.returns
returns c = λ text s has. found_line_is text s has
