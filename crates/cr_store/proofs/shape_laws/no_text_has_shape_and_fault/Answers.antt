use Rattle.cr_store.proofs.ShapeLaws.{never_both}
use Rattle.cr_store.proofs.shape_laws.no_text_has_shape_and_fault.Goals as goal

pub returns : goal.returns
returns c = λ text s line has wrong. never_both text s line has wrong
