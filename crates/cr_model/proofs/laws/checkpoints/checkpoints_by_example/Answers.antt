use Rattle.std.proofs.Common.{refl}
use Rattle.std.specs.Fmt.{digits}
use Rattle.cr_model.proofs.laws.checkpoints.checkpoints_by_example.Goals as goal

pub returns : goal.returns
unfolding digits
returns c = record { fresh = refl; shared = refl; whole = refl; finished = refl; alike = refl; all_shared = refl; last = refl }
