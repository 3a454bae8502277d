-- Both versions begin with these bytes.
use Rattle.cr_store.proofs.Inputs.{begins}
use Rattle.cr_store.proofs.laws.checkpoints_begin_as_such.Goals as goal

pub returns : goal.returns
returns c = λ text bytes p found jobs file. begins text bytes p found jobs file
