use Rattle.std.proofs.Common.{refl, arith, None, [], codes}
use Rattle.std.specs.Str.{is_utf8, chars}
use Rattle.toml.proofs.OnLiterals.{toml_on_literals}
use Rattle.cr_model.specs.Keys.{key_faults}
use Rattle.cr_read.specs.Examples.{doubles_with}
use Rattle.cr_read.proofs.ByExample.{is_file, is_problem}
use Rattle.cr_read.proofs.DoublesRead.{file_with, bob, spellings, doubles_pass}
use Rattle.cr_read.proofs.DoublesKept.{asked, doubles_hold, none}
use Rattle.cr_read.proofs.laws.examples.a_file_of_ten_lines.Goals as goal

pub returns : goal.returns
unfolding toml_on_literals key_faults is_utf8 chars
returns c = is_problem (file_with (bob (codes "b") None None) asked) 5 spellings (doubles_pass None None tt refl asked) (omega arith)
    (doubles_with [] [] []) (is_file (doubles_with [] [] []) _ refl refl) (doubles_hold [] [] [] None (none _) (none _) (none _) tt)
