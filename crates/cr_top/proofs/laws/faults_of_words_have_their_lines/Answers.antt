use Rattle.std.proofs.Common.{refl}
use Rattle.cr_top.proofs.laws.faults_of_words_have_their_lines.Goals as goal

pub returns : goal.returns
returns c = refl
