use Rattle.std.proofs.Common.{refl}
use Rattle.clap.proofs.OnLiterals.{clap_on_literals}
use Rattle.cr_words.specs.Commands.{are_taken}
use Rattle.cr_words.proofs.laws.lines_are_taken_or_not.Goals as goal

pub returns : goal.returns
unfolding clap_on_literals are_taken
returns c = record { nothing = refl; taken = refl; not_taken = refl }
