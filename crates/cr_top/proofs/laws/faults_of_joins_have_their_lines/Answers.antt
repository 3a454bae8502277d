use Rattle.std.proofs.Common.{refl}
use Rattle.std.specs.Fmt.{digits}
use Rattle.cr_top.proofs.laws.faults_of_joins_have_their_lines.Goals as goal

pub returns : goal.returns
unfolding digits
returns c = refl
