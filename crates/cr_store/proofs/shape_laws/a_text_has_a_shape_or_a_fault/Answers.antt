use Rattle.cr_store.proofs.ShapeDecided.{decided}
use Rattle.cr_store.proofs.shape_laws.a_text_has_a_shape_or_a_fault.Goals as goal

pub returns : goal.returns
returns c = λ text. decided text
