use Rattle.std.proofs.Common.{refl}
use Rattle.std.specs.Fmt.{digits}
use Rattle.cr_top.proofs.laws.faults_of_problems_have_their_lines.Goals as goal

pub returns : goal.returns
unfolding digits
returns c = record { texts = refl; numbers = refl; indexes = refl }
