use Rattle.std.proofs.Common.{refl}
use Rattle.std.specs.Fmt.{digits}
use Rattle.cr_top.proofs.laws.statuses_have_their_lines.Goals as goal

pub returns : goal.returns
unfolding digits
returns c = record { finished = refl; words = refl; stopped = refl; problem = refl; checkpoint = refl; read = refl; write = refl; memory = refl; long = refl; trail = refl; join = refl; audit = refl; not_problem = refl }
