use Rattle.std.proofs.Common.{refl}
use Rattle.clap.proofs.OnLiterals.{clap_on_literals}
use Rattle.cr_words.specs.Commands.{rows_in, assigned}
use Rattle.cr_words.specs.Numbers.{number_of, number_from}
use Rattle.cr_words.specs.Values.{has_fault, faults_of}
use Rattle.cr_words.proofs.laws.lines_read_as_wishes.Goals as goal

pub returns : goal.returns
unfolding clap_on_literals rows_in assigned number_of number_from has_fault faults_of
returns c = record {
  nothing = record { has_workers = refl; has_turns = refl; has_mode = refl; right = refl };
  after_equals = record { has_workers = refl; has_turns = refl; has_mode = refl; right = refl };
  after_a_space = record { has_workers = refl; has_turns = refl; has_mode = refl; right = refl };
  zeros = record { has_workers = refl; has_turns = refl; has_mode = refl; right = refl };
  most_turns = record { has_workers = refl; has_turns = refl; has_mode = refl; right = refl };
  no_turns = record { has_workers = refl; has_turns = refl; has_mode = refl; right = refl };
  made = record { has_workers = refl; has_turns = refl; has_mode = refl; right = refl };
  most_made = record { has_workers = refl; has_turns = refl; has_mode = refl; right = refl };
  trail = record { has_workers = refl; has_turns = refl; has_mode = refl; right = refl };
  most_every = record { has_workers = refl; has_turns = refl; has_mode = refl; right = refl };
  last = record { has_workers = refl; has_turns = refl; has_mode = refl; right = refl };
  cut = record { has_workers = refl; has_turns = refl; has_mode = refl; right = refl };
  cut_into = record { has_workers = refl; has_turns = refl; has_mode = refl; right = refl };
  most_into = record { has_workers = refl; has_turns = refl; has_mode = refl; right = refl };
  join = record { has_workers = refl; has_turns = refl; has_mode = refl; right = refl };
  log = record { has_workers = refl; has_turns = refl; has_mode = refl; right = refl };
  audit = record { has_workers = refl; has_turns = refl; has_mode = refl; right = refl };
  lone = record { has_workers = refl; has_turns = refl; has_mode = refl; right = refl };
}
