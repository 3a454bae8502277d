use Rattle.std.proofs.Common.{refl}
use Rattle.std.specs.Fmt.{digits}
use Rattle.cr_top.proofs.laws.faults_of_notations_have_their_lines.Goals as goal

pub returns : goal.returns
unfolding digits
returns c = record { methods = refl; calls = refl }
