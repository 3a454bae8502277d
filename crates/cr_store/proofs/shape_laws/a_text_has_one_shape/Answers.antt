use Rattle.cr_store.proofs.ShapeLaws.{one_shape}
use Rattle.cr_store.proofs.shape_laws.a_text_has_one_shape.Goals as goal

pub returns : goal.returns
returns c = λ text one other has also. one_shape text one other has also
