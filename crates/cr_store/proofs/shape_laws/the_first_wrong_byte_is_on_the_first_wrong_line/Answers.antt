use Rattle.cr_store.proofs.ShapeLaws.{byte_and_line}
use Rattle.cr_store.proofs.shape_laws.the_first_wrong_byte_is_on_the_first_wrong_line.Goals as goal

pub returns : goal.returns
returns c = λ text place wrong. byte_and_line text place wrong
