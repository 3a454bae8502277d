use Rattle.std.proofs.Common.{◌≡◌, ◌≢◌, ℕ, ◌≤◌, refl, arith, inl, inr, pos, Some, None, Ok, List, [], ◌∷◌, get_or, codes}
use Rattle.std.specs.Str.{is_utf8, chars}
use Rattle.std.proofs.lemmas.Int.{ints}
use Rattle.toml.proofs.OnLiterals.{toml_on_literals}
use Rattle.cr_row.specs.Rows.{Places}
use Rattle.cr_model.specs.declared.fault.CountAt.TheVariants as counted
use Rattle.cr_model.specs.declared.fault.PartFault.{PartFault}
use Rattle.cr_model.specs.declared.fault.PartFault.TheVariants as part
use Rattle.cr_model.specs.declared.query.Cell.TheVariants as cell
use Rattle.cr_model.specs.declared.query.Com.{Com}
use Rattle.cr_model.specs.Examples.{marked, lettered}
use Rattle.cr_model.specs.Examples as examples
use Rattle.cr_model.specs.Callings.{step_at}
use Rattle.cr_model.specs.Queries.{extent}
use Rattle.cr_model.specs.Checks.{IsFirstFailure}
use Rattle.cr_model.specs.Keys.{key_faults}
use Rattle.cr_model.specs.Problems.{PatternParts}
use Rattle.cr_model.specs.Right.{LimitsAreRight, CountIsRight, MethodCountIsRight, PatternIsRight}
use Rattle.cr_model.specs.Files.{FileParts, Limited, CallText}
use Rattle.cr_model.specs.ProblemFiles.{Spellings, mark_at, parts_of, MakesWrong, OverIsRight, MarkIsRight, FitsAll, Suits, IsApart, CallsPass}
use Rattle.cr_notation.specs.Reading.{read_all, read_from, byte_step, step, place_step, cross_step, dot_step, comma_step, end_step, closed}
use Rattle.cr_read.specs.Examples.{stage_line, method_lines, call_lines, in_pieces, doubles_with, eight_methods}
use Rattle.cr_read.proofs.ByExample.{each, is_file, spelled, later_checks, makes_wrong}
use Rattle.cr_read.proofs.OneMethod.{Asked, file_of_one, spellings_of_one, marks_pass}
use Rattle.cr_read.proofs.DoublesRead as doubles
use Rattle.cr_read.proofs.DoublesRead.{bob, file_with, doubles_pass}
use Rattle.cr_read.proofs.DoublesKept.{asked, none}
use Rattle.cr_read.proofs.EightRead as eight
use Rattle.cr_read.proofs.laws.examples.faults_of_queries.Goals as goal

-- Plain Bob Doubles with its bob, and what is asked
abbrev file : Asked → FileParts
file query = file_with (bob (codes "b") None None) query

wrong_query : (query : Asked) (why : PartFault) → IsFirstFailure (later_checks (parts_of 5 (file query) doubles.spellings)) why → MakesWrong (file query) why
wrong_query query why first = makes_wrong (file query) 5 doubles.spellings (doubles_pass None None tt refl query) (omega arith) why first

-- more steps than 24
many_steps : MakesWrong eight.file (part.Steps 32)
many_steps = makes_wrong eight.file 5 eight.spellings eight.eight_pass (omega arith) (part.Steps 32) (inl (refl, λ few. (let most : 32 ≤ 24 = few in omega arith)))

-- from no changes on
range_wrong : MakesWrong (file (record asked { min = pos 0 })) (part.Range (pos 0) (pos 120))
range_wrong = wrong_query (record asked { min = pos 0 }) _ (inr (omega arith, inl (refl, λ right. omega (arith, ints, right.from))))

-- leads of one change, and so more of them than 1,024
abbrev on_eight : List ℕ → Places
on_eight made = record { stage = 8; made = made }

abbrev short_call : CallText
short_call = record { mark = codes "b"; notation = codes "18"; over = None; methods = None }

abbrev deep_asked : Asked
deep_asked = record asked { max = pos 1025 }

abbrev deep_file : FileParts
deep_file = file_of_one 8 (codes "x") (short_call ∷ []) deep_asked

abbrev cross : List Places
cross = on_eight [] ∷ []

abbrev ends : List Places
ends = on_eight (1 ∷ 8 ∷ []) ∷ []

short_read : (read_all 8 (codes "x") ≡ Ok cross) × (read_all 8 (codes "18") ≡ Ok ends)
unfolding read_all read_from byte_step step place_step cross_step dot_step comma_step end_step closed
short_read = (refl, refl)

abbrev deep_spellings : Spellings
deep_spellings = spellings_of_one cross (ends ∷ [])

deep_pass : CallsPass deep_file 8 deep_spellings
deep_pass = record {
  before = record {
    before = marks_pass 8 (omega arith) (omega arith) (codes "x") cross short_read.0 (short_call ∷ []) (ends ∷ []) deep_asked
        (spelled 8 (codes "18") ends short_read.1, tt)
        (each (OverIsRight deep_file) 1 (tt, tt))
        (each (λ call. MarkIsRight (mark_at deep_file call)) 1 (tt, record { from = omega arith; to = omega arith; called = λ e. absurd (omega (arith, e)) }));
    fits = each (FitsAll deep_file deep_spellings) 1 (tt, each (Suits deep_file deep_spellings 0) 1 (tt, λ named. record { over = omega arith; short = omega arith }));
  };
  apart = each (IsApart deep_file) 1 (tt, λ first h. absurd (omega arith));
}

deep_range : LimitsAreRight (pos 1) (pos 1) (pos 1025)
deep_range = record { from = omega (arith, ints); order = omega (arith, ints); to = omega (arith, ints) }

deep_wrong : MakesWrong deep_file (part.Deep 1025)
unfolding extent
deep_wrong = makes_wrong deep_file 8 deep_spellings deep_pass (omega arith) (part.Deep 1025)
    (inr (omega arith, inr (deep_range, inl (refl, λ few. (let most : 1025 ≤ 1024 = few in omega arith)))))

-- lengths that are right, and what is wrong behind them
in_range : LimitsAreRight (pos 1) (pos 1) (pos 120)
in_range = record { from = omega (arith, ints); order = omega (arith, ints); to = omega (arith, ints) }

parts_wrong : MakesWrong (file (record asked { parts = pos 0 })) (part.Parts (pos 0))
unfolding extent
parts_wrong = wrong_query (record asked { parts = pos 0 }) _
    (inr (omega arith, inr (in_range, inr (omega arith, inl (refl, λ right. omega (arith, ints, right.0))))))

abbrev unlimited : List ℕ → Limited
unlimited text = record { text = text; min = pos 0; max = pos 12000 }

-- no lead has the mark, and no method the letter
no_mark : CountIsRight examples.doubles.leads 0 (marked 122 0 12000) → ⊥
no_mark right = each (λ k. (step_at examples.doubles.leads k).mark ≢ 122) 2 ((tt, λ e. absurd (omega (arith, e))), λ e. absurd (omega (arith, e)))
    right.known.0 right.known.1 right.known.2

no_letter : MethodCountIsRight examples.doubles.letters 0 (lettered 66 0 12000) → ⊥
no_letter right = each (λ k. get_or examples.doubles.letters k 0 ≢ 66) 1 (tt, λ e. absurd (omega (arith, e))) right.known.0 right.known.1 right.known.2

count_wrong : MakesWrong (file (record asked { counts = unlimited (codes "z") ∷ [] })) (part.Count (counted.Mark 0))
unfolding extent
count_wrong = wrong_query (record asked { counts = unlimited (codes "z") ∷ [] }) _
    (inr (omega arith, inr (in_range, inr (omega arith, inr ((omega (arith, ints), omega (arith, ints)), inl (0, refl, record { within = omega arith; before = none _; wrong = no_mark }))))))

method_count_wrong : MakesWrong (file (record asked { leads = unlimited (codes "B") ∷ [] })) (part.Count (counted.Method 0))
unfolding extent
method_count_wrong = wrong_query (record asked { leads = unlimited (codes "B") ∷ [] }) _
    (inr (omega arith, inr (in_range, inr (omega arith, inr ((omega (arith, ints), omega (arith, ints)), inr (none _, inl (0, refl, record { within = omega arith; before = none _; wrong = no_letter })))))))

-- four cells on five bells
abbrev four_cells : PatternParts
four_cells = record { cells = cell.Bell 1 ∷ cell.Bell 4 ∷ cell.Bell 2 ∷ cell.Bell 5 ∷ []; min = pos 0; max = pos 12000 }

too_few : PatternIsRight 5 0 four_cells → ⊥
too_few right = elim right.cells.size [ inl all ↦ (let same : 4 ≡ 5 = all.1 in omega (arith, same)) | inr run ↦ (let same : 0 ≡ 1 = run.0 in omega (arith, same)) ]

pattern_wrong : MakesWrong (file (record asked { patterns = unlimited (codes "1425") ∷ [] })) (part.Pattern 0)
unfolding extent
pattern_wrong = wrong_query (record asked { patterns = unlimited (codes "1425") ∷ [] }) _
    (inr (omega arith, inr (in_range, inr (omega arith, inr ((omega (arith, ints), omega (arith, ints)), inr (none _, inr (none _, inl (0, refl, record { within = omega arith; before = none _; wrong = too_few }))))))))

abbrev turned : Com
turned = record { min = pos 5; max = pos 4 }

com_wrong : MakesWrong (file (record asked { «com» = Some turned })) part.Com
unfolding extent
com_wrong = wrong_query (record asked { «com» = Some turned }) _
    (inr (omega arith, inr (in_range, inr (omega arith, inr ((omega (arith, ints), omega (arith, ints)), inr (none _, inr (none _, inr (none _, inl (refl, λ right. omega (arith, ints, right.order))))))))))

pub returns : goal.returns
unfolding toml_on_literals key_faults is_utf8 chars
returns c = record {
  steps = (eight.file, is_file eight_methods _ refl refl, many_steps);
  range = (file (record asked { min = pos 0 }), is_file (in_pieces stage_line method_lines call_lines (codes "[query]\nmin = 0\nmax = 120\n")) _ refl refl, range_wrong);
  deep = (
    deep_file,
    is_file (in_pieces (codes "stage = 8\n") (codes "[[method]]\nletter = \"A\"\nnotation = \"x\"\n") (codes "[[call]]\nmark = \"b\"\nnotation = \"18\"\n") (codes "[query]\nmin = 1\nmax = 1025\n")) _ refl refl,
    deep_wrong,
  );
  parts = (file (record asked { parts = pos 0 }), is_file (doubles_with [] [] (codes "parts = 0\n")) _ refl refl, parts_wrong);
  count = (
    file (record asked { counts = unlimited (codes "z") ∷ [] }),
    is_file (doubles_with [] [] (codes "[[count]]\nmark = \"z\"\n")) _ refl refl,
    count_wrong,
  );
  leads = (
    file (record asked { leads = unlimited (codes "B") ∷ [] }),
    is_file (doubles_with [] [] (codes "[[leads]]\nletter = \"B\"\n")) _ refl refl,
    method_count_wrong,
  );
  rows = (
    file (record asked { patterns = unlimited (codes "1425") ∷ [] }),
    is_file (doubles_with [] [] (codes "[[rows]]\npattern = \"1425\"\n")) _ refl refl,
    pattern_wrong,
  );
  changes = (
    file (record asked { «com» = Some turned }),
    is_file (doubles_with [] [] (codes "[com]\nmin = 5\nmax = 4\n")) _ refl refl,
    com_wrong,
  );
}
