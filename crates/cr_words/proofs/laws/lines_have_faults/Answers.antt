use Rattle.std.proofs.Common.{refl}
use Rattle.clap.proofs.OnLiterals.{clap_on_literals}
use Rattle.cr_words.specs.Commands.{rows_in, assigned}
use Rattle.cr_words.specs.Numbers.{number_of, number_from}
use Rattle.cr_words.specs.Values.{has_fault, faults_of}
use Rattle.cr_words.proofs.laws.lines_have_faults.Goals as goal

pub returns : goal.returns
unfolding clap_on_literals rows_in assigned number_of number_from has_fault faults_of
returns c = record { workers = refl; turns = refl; modes = refl; every = refl; into = refl; mixed = refl; searched = refl; made = refl; last = refl; cut = refl; join = refl; log = refl; audit = refl; not_cut = refl; with_into = refl; many = refl }
