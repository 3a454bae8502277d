use Rattle.std.proofs.Common.{refl, arith, Some, None, [], codes}
use Rattle.std.specs.Str.{is_utf8, chars}
use Rattle.std.proofs.lemmas.Int.{ints}
use Rattle.toml.proofs.OnLiterals.{toml_on_literals}
use Rattle.cr_model.specs.Keys.{key_faults}
use Rattle.cr_model.specs.Queries.{extent}
use Rattle.cr_model.specs.Checks.{AllHold}
use Rattle.cr_read.specs.Examples.{two_methods, two_methods_with}
use Rattle.cr_read.proofs.ByExample.{is_file, is_problem, later_checks}
use Rattle.cr_read.proofs.StepsRead.{file, spellings, steps_pass}
use Rattle.cr_read.proofs.laws.examples.steps_in_order.Goals as goal

hold : AllHold (later_checks two_methods)
unfolding extent
hold = (
  omega arith,
  (
    record { from = omega (arith, ints); order = omega (arith, ints); to = omega (arith, ints) },
    (omega arith, ((omega (arith, ints), omega (arith, ints)), ((λ i h. absurd (omega arith)), ((λ i h. absurd (omega arith)), ((λ i h. absurd (omega arith)), (tt, tt)))))),
  ),
)

pub returns : goal.returns
unfolding toml_on_literals key_faults is_utf8 chars
returns c = record {
  all = is_problem (file None) 4 spellings (steps_pass None) (omega arith) (two_methods_with []) (is_file (two_methods_with []) _ refl refl) hold;
  chosen = is_problem (file (Some (codes "AC"))) 4 spellings (steps_pass (Some (codes "AC"))) (omega arith) (two_methods_with (codes "methods = \"AC\"\n"))
      (is_file (two_methods_with (codes "methods = \"AC\"\n")) _ refl refl) hold;
}
