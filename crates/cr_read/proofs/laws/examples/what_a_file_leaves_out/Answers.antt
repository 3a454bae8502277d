use Rattle.std.proofs.Common.{◌≡◌, ℕ, ◌<◌, ◌≤◌, refl, arith, inr, pos, Some, None, IfSome, List, [], ◌∷◌, codes}
use Rattle.std.specs.Str.{is_utf8, chars}
use Rattle.std.proofs.lemmas.Int.{ints}
use Rattle.toml.proofs.OnLiterals.{toml_on_literals}
use Rattle.cr_model.specs.declared.query.Cell.{Cell}
use Rattle.cr_model.specs.declared.query.Cell.TheVariants as cell
use Rattle.cr_model.specs.Examples.{doubles, marked, lettered, com_from}
use Rattle.cr_model.specs.Right.{CountIsRight, MethodCountIsRight, PatternIsRight, bell_named, cell_at, IsNamedFirst}
use Rattle.cr_model.specs.Files.{Limited}
use Rattle.cr_model.specs.Keys.{key_faults}
use Rattle.cr_read.specs.Examples.{doubles_with}
use Rattle.cr_read.proofs.ByExample.{each, is_file, is_problem}
use Rattle.cr_read.proofs.DoublesRead.{file_with, bob, spellings, doubles_pass}
use Rattle.cr_read.proofs.DoublesKept.{asked, doubles_hold, none}
use Rattle.cr_read.proofs.laws.examples.what_a_file_leaves_out.Goals as goal

-- a text and two limits that are left out
abbrev unlimited : List ℕ → Limited
unlimited text = record { text = text; min = pos 0; max = pos 12000 }

count_right : CountIsRight doubles.leads 0 (marked 98 0 12000)
count_right = record {
  few = omega arith;
  known = (1, omega arith, refl);
  limits = record { from = omega (arith, ints); order = omega (arith, ints); to = omega (arith, ints) };
}

method_count_right : MethodCountIsRight doubles.letters 0 (lettered 65 0 12000)
method_count_right = record {
  few = omega arith;
  known = (0, omega arith, refl);
  limits = record { from = omega (arith, ints); order = omega (arith, ints); to = omega (arith, ints) };
}

abbrev cells : List Cell
cells = cell.Any ∷ cell.Bell 4 ∷ cell.Run ∷ []

-- one bell is named, in the second cell
once : (k : ℕ) → k < 3 → IsNamedFirst cells k
once = each (IsNamedFirst cells) 3 (
  ((tt, λ j b h named same. absurd (omega arith)), λ j b h named same. first_names_none j b h named),
  λ j b h named same. absurd (cc),
)
  where
    first_names_none : (j b : ℕ) → j < 1 → bell_named (cell_at cells j) ≡ Some b → ⊥
    first_names_none j b h = each (λ j. bell_named (cell_at cells j) ≡ Some b → ⊥) 1 (tt, λ named. absurd (cc)) j h

pattern_right : PatternIsRight 5 0 (record { cells = cells; min = pos 0; max = pos 12000 })
pattern_right = record {
  few = omega arith;
  cells = record {
    size = inr (refl, omega arith);
    bells = each (λ k. IfSome (bell_named (cell_at cells k)) (λ b. b ≤ 5)) 3 (((tt, tt), omega arith), tt);
    once = once;
  };
  limits = record { from = omega (arith, ints); order = omega (arith, ints); to = omega (arith, ints) };
}

pub returns : goal.returns
unfolding toml_on_literals key_faults is_utf8 chars
returns c = record {
  name = is_problem (file_with (bob (codes "b") None None) asked) 5 spellings (doubles_pass None None tt refl asked) (omega arith)
      (doubles_with (codes "name = \"Plain Bob\"\n") [] []) (is_file (doubles_with (codes "name = \"Plain Bob\"\n") [] []) _ refl refl)
      (doubles_hold [] [] [] None (none _) (none _) (none _) tt);
  over = is_problem (file_with (bob (codes "b") (Some (pos 1)) None) asked) 5 spellings (doubles_pass (Some (pos 1)) None (omega (arith, ints), omega (arith, ints)) refl asked) (omega arith)
      (doubles_with [] (codes "over = 1\n") []) (is_file (doubles_with [] (codes "over = 1\n") []) _ refl refl)
      (doubles_hold [] [] [] None (none _) (none _) (none _) tt);
  chosen = is_problem (file_with (bob (codes "b") None (Some (codes "A"))) asked) 5 spellings (doubles_pass None (Some (codes "A")) tt refl asked) (omega arith)
      (doubles_with [] (codes "methods = \"A\"\n") []) (is_file (doubles_with [] (codes "methods = \"A\"\n") []) _ refl refl)
      (doubles_hold [] [] [] None (none _) (none _) (none _) tt);
  parts = is_problem (file_with (bob (codes "b") None None) asked) 5 spellings (doubles_pass None None tt refl asked) (omega arith)
      (doubles_with [] [] (codes "parts = 1\n")) (is_file (doubles_with [] [] (codes "parts = 1\n")) _ refl refl)
      (doubles_hold [] [] [] None (none _) (none _) (none _) tt);
  count = is_problem (file_with (bob (codes "b") None None) (record asked { counts = unlimited (codes "b") ∷ [] })) 5 spellings (doubles_pass None None tt refl (record asked { counts = unlimited (codes "b") ∷ [] })) (omega arith)
      (doubles_with [] [] (codes "[[count]]\nmark = \"b\"\n")) (is_file (doubles_with [] [] (codes "[[count]]\nmark = \"b\"\n")) _ refl refl)
      (doubles_hold (marked 98 0 12000 ∷ []) [] [] None (each _ 1 (tt, count_right)) (none _) (none _) tt);
  leads = is_problem (file_with (bob (codes "b") None None) (record asked { leads = unlimited (codes "A") ∷ [] })) 5 spellings (doubles_pass None None tt refl (record asked { leads = unlimited (codes "A") ∷ [] })) (omega arith)
      (doubles_with [] [] (codes "[[leads]]\nletter = \"A\"\n")) (is_file (doubles_with [] [] (codes "[[leads]]\nletter = \"A\"\n")) _ refl refl)
      (doubles_hold [] (lettered 65 0 12000 ∷ []) [] None (none _) (each _ 1 (tt, method_count_right)) (none _) tt);
  rows = is_problem (file_with (bob (codes "b") None None) (record asked { patterns = unlimited (codes "?4*") ∷ [] })) 5 spellings (doubles_pass None None tt refl (record asked { patterns = unlimited (codes "?4*") ∷ [] })) (omega arith)
      (doubles_with [] [] (codes "[[rows]]\npattern = \"?4*\"\n")) (is_file (doubles_with [] [] (codes "[[rows]]\npattern = \"?4*\"\n")) _ refl refl)
      (doubles_hold [] [] (record { cells = cells; min = pos 0; max = pos 12000 } ∷ []) None (none _) (none _) (each _ 1 (tt, pattern_right)) tt);
  changes = is_problem (file_with (bob (codes "b") None None) (record asked { «com» = Some (com_from 0 12000) })) 5 spellings (doubles_pass None None tt refl (record asked { «com» = Some (com_from 0 12000) })) (omega arith)
      (doubles_with [] [] (codes "[com]\n")) (is_file (doubles_with [] [] (codes "[com]\n")) _ refl refl)
      (doubles_hold [] [] [] (Some (com_from 0 12000)) (none _) (none _) (none _) (record { from = omega (arith, ints); order = omega (arith, ints); to = omega (arith, ints) }));
}
