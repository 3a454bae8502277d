use Rattle.std.proofs.Common.{refl, [], ◌++◌, codes}
use Rattle.std.specs.Fmt.{digits}
use Rattle.std.specs.Str.{is_utf8, chars}
use Rattle.toml.proofs.OnLiterals.{toml_on_literals}
use Rattle.cr_model.specs.Keys.{key_faults}
use Rattle.cr_read.specs.Examples.{stage_line, method_lines, call_lines, query_lines, in_pieces, doubles_with}
use Rattle.cr_read.proofs.ByExample.{not_toml, wrong_key}
use Rattle.cr_read.proofs.laws.examples.faults_of_keys.Goals as goal

pub returns : goal.returns
unfolding toml_on_literals key_faults is_utf8 chars digits
returns c = record {
  text = not_toml (in_pieces (codes "stage =\n") method_lines call_lines query_lines) refl;
  missing = wrong_key (in_pieces stage_line method_lines call_lines []) _ refl refl;
  unknown = wrong_key (codes "speed = 1\n" ++ doubles_with [] [] []) _ refl refl;
  kind = wrong_key (in_pieces (codes "stage = \"5\"\n") method_lines call_lines query_lines) _ refl refl;
  letters = wrong_key (doubles_with [] (codes "methods = \"B\"\n") []) _ refl refl;
}
