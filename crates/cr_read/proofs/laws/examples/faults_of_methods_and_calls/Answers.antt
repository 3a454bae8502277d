use Rattle.std.proofs.Common.{◌≡◌, ℕ, ◌<◌, ◌≤◌, refl, arith, ℤ, pos, negsuc, ◌≤ℤ◌, Some, None, Ok, Err, List, [], ◌∷◌, ◌++◌, map, codes}
use Rattle.std.specs.Str.{is_utf8, chars}
use Rattle.std.proofs.lemmas.Int.{ints}
use Rattle.toml.proofs.OnLiterals.{toml_on_literals}
use Rattle.cr_row.specs.Rows.{Places}
use Rattle.cr_model.specs.declared.notation.NotationFault.TheVariants as notation
use Rattle.cr_model.specs.declared.file_fault.ProblemFault.TheVariants as fault
use Rattle.cr_model.specs.declared.file_fault.Whose.TheVariants as whose
use Rattle.cr_model.specs.Examples.{on_five}
use Rattle.cr_model.specs.Keys.{key_faults}
use Rattle.cr_model.specs.Files.{FileParts, MethodText, CallText}
use Rattle.cr_model.specs.Right.{LetterIsRight}
use Rattle.cr_model.specs.ProblemFiles.{mark_at, OverIsRight, MarkIsRight, FitsAll, Suits, IsApart, IsFileFault}
use Rattle.cr_notation.specs.Reading.{read_all, read_from, byte_step, step, place_step, cross_step, dot_step, comma_step, end_step, closed}
use Rattle.cr_read.specs.Examples.{stage_line, method_lines, call_lines, query_lines, in_pieces, doubles_with}
use Rattle.cr_read.proofs.ByExample.{each, is_file, spelled, unspelled}
use Rattle.cr_read.proofs.OneMethod.{file_of_one, spellings_of_one, letters_pass, method_spells, marks_pass}
use Rattle.cr_read.proofs.DoublesRead as doubles
use Rattle.cr_read.proofs.DoublesRead.{bob, file_with, plain_spelling, bob_spelling, method_read, call_read, spell}
use Rattle.cr_read.proofs.DoublesKept.{asked, none}
use Rattle.cr_read.proofs.laws.examples.faults_of_methods_and_calls.Goals as goal

abbrev plain_bob : CallText
plain_bob = bob (codes "b") None None

-- a file with this stage and these methods
abbrev with_methods : ℤ → List MethodText → FileParts
with_methods stage methods = record (file_with plain_bob asked) { stage = stage; methods = methods }

abbrev method_of : List ℕ → MethodText
method_of letter = record { letter = letter; notation = doubles.notation }

letter_wrong : IsFileFault (with_methods (pos 5) (method_of (codes "a") ∷ [])) (fault.Letter 0)
letter_wrong = (
  5,
  record { is = refl; from = omega arith; to = omega arith },
  record { within = omega arith; before = none _; wrong = λ right. (let to : 97 ≤ 90 = right.to in omega arith) },
)

letter_again : IsFileFault (with_methods (pos 5) (method_of (codes "A") ∷ method_of (codes "A") ∷ [])) (fault.Letter 1)
letter_again = (
  5,
  record { is = refl; from = omega arith; to = omega arith },
  record {
    within = omega arith;
    before = each (LetterIsRight (65 ∷ 65 ∷ [])) 1 (tt, record { few = omega arith; from = omega arith; to = omega arith; new = λ j h. absurd (omega arith) });
    wrong = λ right. right.new 0 (omega arith) refl;
  },
)

no_cross : read_all 5 (codes "x") ≡ Err (notation.CrossOnOdd 0)
unfolding read_all read_from byte_step step place_step cross_step dot_step comma_step end_step closed
no_cross = refl

method_wrong : IsFileFault (file_of_one 5 (codes "x") (plain_bob ∷ []) asked) (fault.Notation (whose.Method 0) (notation.CrossOnOdd 0))
method_wrong = (
  5,
  letters_pass 5 (omega arith) (omega arith) (codes "x") (plain_bob ∷ []) asked,
  record { within = omega arith; before = λ j h. absurd (omega arith); wrong = unspelled 5 (codes "x") _ no_cross },
)

no_sixth : read_all 5 (codes "146") ≡ Err (notation.Above 2)
unfolding read_all read_from byte_step step place_step cross_step dot_step comma_step end_step closed
no_sixth = refl

abbrev of_six : CallText
of_six = record { mark = codes "b"; notation = codes "146"; over = None; methods = None }

call_wrong : IsFileFault (file_with of_six asked) (fault.Notation (whose.Call 0) (notation.Above 2))
call_wrong = (
  5,
  plain_spelling ∷ [],
  method_spells 5 (omega arith) (omega arith) doubles.notation plain_spelling method_read (of_six ∷ []) [] asked,
  record { within = omega arith; before = λ j h. absurd (omega arith); wrong = unspelled 5 (codes "146") _ no_sixth },
)

over_wrong : (over : ℤ) → ((pos 0 ≤ℤ over) × (over ≤ℤ pos 128) → ⊥) → IsFileFault (file_with (bob (codes "b") (Some over) None) asked) (fault.Over 0)
over_wrong over wrong =
    (5, doubles.spellings, spell (codes "b") (Some over) None asked, record { within = omega arith; before = none _; wrong = wrong })

mark_wrong : IsFileFault (file_with (bob (codes "p") None None) asked) (fault.Mark 0)
mark_wrong = (
  5,
  doubles.spellings,
  record { before = spell (codes "p") None None asked; overs = each (OverIsRight (file_with (bob (codes "p") None None) asked)) 1 (tt, tt) },
  record { within = omega arith; before = none _; wrong = λ right. right.called refl },
)

-- a call of two changes for a method of one
abbrev two_changes : CallText
two_changes = record { mark = codes "b"; notation = codes "5.145"; over = None; methods = None }

abbrev short_file : FileParts
short_file = file_of_one 5 (codes "5") (two_changes ∷ []) asked

abbrev short_spelling : List Places
short_spelling = map on_five ((5 ∷ []) ∷ [])

abbrev long_call : List Places
long_call = map on_five ((5 ∷ []) ∷ (1 ∷ 4 ∷ 5 ∷ []) ∷ [])

short_read : (read_all 5 (codes "5") ≡ Ok short_spelling) × (read_all 5 (codes "5.145") ≡ Ok long_call)
unfolding read_all read_from byte_step step place_step cross_step dot_step comma_step end_step closed
short_read = (refl, refl)

call_long : IsFileFault short_file (fault.CallLength 0 0)
call_long = (
  5,
  spellings_of_one short_spelling (long_call ∷ []),
  marks_pass 5 (omega arith) (omega arith) (codes "5") short_spelling short_read.0 (two_changes ∷ []) (long_call ∷ []) asked
      (spelled 5 (codes "5.145") long_call short_read.1, tt)
      (each (OverIsRight short_file) 1 (tt, tt))
      (each (λ call. MarkIsRight (mark_at short_file call)) 1 (tt, record { from = omega arith; to = omega arith; called = λ e. absurd (omega (arith, e)) })),
  record { within = omega arith; before = none _; wrong = λ all. (let more : 2 ≤ 1 = (all 0 (omega arith) refl).over in omega arith) },
  record { within = omega arith; before = none _; wrong = λ suits. (let more : 2 ≤ 1 = (suits refl).over in omega arith) },
)

-- the same call twice
abbrev twice : FileParts
twice = file_of_one 5 doubles.notation (plain_bob ∷ plain_bob ∷ []) asked

bob_marked : (call : ℕ) → call < 2 → MarkIsRight (mark_at twice call)
bob_marked = each (λ call. MarkIsRight (mark_at twice call)) 2 (
  (tt, record { from = omega arith; to = omega arith; called = λ e. absurd (omega (arith, e)) }),
  record { from = omega arith; to = omega arith; called = λ e. absurd (omega (arith, e)) },
)

twice_fits : (call : ℕ) → call < 2 → FitsAll twice (spellings_of_one plain_spelling (bob_spelling ∷ bob_spelling ∷ [])) call
twice_fits = each (FitsAll twice (spellings_of_one plain_spelling (bob_spelling ∷ bob_spelling ∷ []))) 2 (
  (tt, each (Suits twice (spellings_of_one plain_spelling (bob_spelling ∷ bob_spelling ∷ [])) 0) 1 (tt, λ named. record { over = omega arith; short = omega arith })),
  each (Suits twice (spellings_of_one plain_spelling (bob_spelling ∷ bob_spelling ∷ [])) 1) 1 (tt, λ named. record { over = omega arith; short = omega arith }),
)

calls_clash : IsFileFault twice (fault.Clash 0 1)
calls_clash = (
  5,
  spellings_of_one plain_spelling (bob_spelling ∷ bob_spelling ∷ []),
  record {
    before = marks_pass 5 (omega arith) (omega arith) doubles.notation plain_spelling method_read (plain_bob ∷ plain_bob ∷ [])
        (bob_spelling ∷ bob_spelling ∷ []) asked
        (spelled 5 (codes "145") bob_spelling call_read, (spelled 5 (codes "145") bob_spelling call_read, tt))
        (each (OverIsRight twice) 2 ((tt, tt), tt)) bob_marked;
    fits = twice_fits;
  },
  record {
    within = omega arith;
    before = each (IsApart twice) 1 (tt, λ first h. absurd (omega arith));
    wrong = λ apart. apart 0 (omega arith) refl 0 (omega arith) refl refl;
  },
  record { within = omega arith; before = none _; wrong = λ apart. apart refl 0 (omega arith) refl refl },
)

pub returns : goal.returns
unfolding toml_on_literals key_faults is_utf8 chars
returns c = record {
  stage = (
    with_methods (pos 17) (method_of (codes "A") ∷ []),
    is_file (in_pieces (codes "stage = 17\n") method_lines call_lines query_lines) _ refl refl,
    (refl, λ h. absurd (omega (arith, ints, h.1))),
  );
  below = (
    with_methods (negsuc 0) (method_of (codes "A") ∷ []),
    is_file (in_pieces (codes "stage = -1\n") method_lines call_lines query_lines) _ refl refl,
    (refl, λ h. absurd (omega (arith, ints, h.0))),
  );
  letter = (
    with_methods (pos 5) (method_of (codes "a") ∷ []),
    is_file (in_pieces stage_line (codes "[[method]]\nletter = \"a\"\nnotation = \"5.1.5.1.5,125\"\n") call_lines query_lines) _ refl refl,
    letter_wrong,
  );
  again = (
    with_methods (pos 5) (method_of (codes "A") ∷ method_of (codes "A") ∷ []),
    is_file (in_pieces stage_line (method_lines ++ method_lines) call_lines query_lines) _ refl refl,
    letter_again,
  );
  of_method = (
    file_of_one 5 (codes "x") (plain_bob ∷ []) asked,
    is_file (in_pieces stage_line (codes "[[method]]\nletter = \"A\"\nnotation = \"x\"\n") call_lines query_lines) _ refl refl,
    method_wrong,
  );
  of_call = (
    file_with of_six asked,
    is_file (in_pieces stage_line method_lines (codes "[[call]]\nmark = \"b\"\nnotation = \"146\"\n") query_lines) _ refl refl,
    call_wrong,
  );
  over = (
    file_with (bob (codes "b") (Some (pos 129)) None) asked,
    is_file (doubles_with [] (codes "over = 129\n") []) _ refl refl,
    over_wrong (pos 129) (λ h. omega (arith, ints, h.1)),
  );
  under = (
    file_with (bob (codes "b") (Some (negsuc 0)) None) asked,
    is_file (doubles_with [] (codes "over = -1\n") []) _ refl refl,
    over_wrong (negsuc 0) (λ h. omega (arith, ints, h.0)),
  );
  mark = (
    file_with (bob (codes "p") None None) asked,
    is_file (in_pieces stage_line method_lines (codes "[[call]]\nmark = \"p\"\nnotation = \"145\"\n") query_lines) _ refl refl,
    mark_wrong,
  );
  long = (
    short_file,
    is_file (in_pieces stage_line (codes "[[method]]\nletter = \"A\"\nnotation = \"5\"\n") (codes "[[call]]\nmark = \"b\"\nnotation = \"5.145\"\n") query_lines) _ refl refl,
    call_long,
  );
  clash = (twice, is_file (in_pieces stage_line method_lines (call_lines ++ call_lines) query_lines) _ refl refl, calls_clash);
}
