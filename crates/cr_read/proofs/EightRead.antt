-- A file of eight methods and three calls by example, which has more steps than a problem may have.
use Rattle.std.proofs.Common.{◌≡◌, ℕ, ◌+◌, ◌<◌, min, pos, None, Ok, unwrap_or, List, [], ◌∷◌, length, get_or, replicate, codes, refl, arith}
use Rattle.std.specs.Prelude.{map}
use Rattle.cr_row.specs.Rows.{Places}
use Rattle.cr_model.specs.Examples.{on_five}
use Rattle.cr_model.specs.Right.{LetterIsRight}
use Rattle.cr_model.specs.Notation.{Spells}
use Rattle.cr_model.specs.Files.{FileParts}
use Rattle.cr_model.specs.ProblemFiles.{Spellings, letters_of, mark_at, over_at, spelling_at, MarkIsRight, OverIsRight, Fits, CallsSpell, CallsPass}
use Rattle.cr_notation.specs.Reading.{read_all, read_from, byte_step, step, place_step, cross_step, dot_step, comma_step, end_step, closed}
use Rattle.cr_read.proofs.ByExample.{each, spelled}
use Rattle.cr_read.proofs.CallFacts.{called_length}
use Rattle.cr_read.proofs.DoublesRead.{bob, bob_spelling, call_read}

abbrev pub file : FileParts
file = record {
  stage = pos 5;
  methods = map (λ letter. record { letter = letter ∷ []; notation = codes "5" }) (codes "ABCDEFGH");
  calls = map (λ mark. bob (mark ∷ []) None None) (codes "bcd");
  min = pos 1;
  max = pos 120;
  parts = pos 1;
  counts = [];
  leads = [];
  patterns = [];
  «com» = None;
}

abbrev one_change : List Places
one_change = map on_five ((5 ∷ []) ∷ [])

abbrev pub spellings : Spellings
spellings = record { methods = replicate 8 one_change; calls = replicate 3 bob_spelling }

one_read : read_all 5 (codes "5") ≡ Ok one_change
unfolding read_all read_from byte_step step place_step cross_step dot_step comma_step end_step closed
one_read = refl

-- the letters ascend
letter_is : (i : ℕ) → i < 8 → get_or (letters_of file) i 0 ≡ 65 + i
letter_is = each (λ i. get_or (letters_of file) i 0 ≡ 65 + i) 8 ((((((((tt, refl), refl), refl), refl), refl), refl), refl), refl)

letter_right : (i : ℕ) → i < 8 → LetterIsRight (letters_of file) i
letter_right i h =
    let here = letter_is i h in
    record {
      few = h;
      from = omega (arith, here);
      to = omega (arith, here);
      new = λ j below same. (let there = letter_is j (omega arith) in absurd (omega (arith, here, there, same)));
    }

one_spelled : Spells 5 (codes "5") one_change
one_spelled = spelled 5 (codes "5") one_change one_read

bob_spelled : Spells 5 (codes "145") bob_spelling
bob_spelled = spelled 5 (codes "145") bob_spelling call_read

spell : CallsSpell file 5 spellings
spell = record {
  before = record {
    before = record { before = record { is = refl; from = omega arith; to = omega arith }; letters = letter_right };
    methods_spell = (one_spelled, (one_spelled, (one_spelled, (one_spelled, (one_spelled, (one_spelled, (one_spelled, (one_spelled, tt))))))));
  };
  calls_spell = (bob_spelled, (bob_spelled, (bob_spelled, tt)));
}

-- the marks ascend
mark_is : (i : ℕ) → i < 3 → mark_at file i ≡ 98 + i
mark_is = each (λ i. mark_at file i ≡ 98 + i) 3 (((tt, refl), refl), refl)

mark_right : (i : ℕ) → i < 3 → MarkIsRight (mark_at file i)
mark_right i h =
    let here = mark_is i h in
    record { from = omega (arith, here); to = omega (arith, here); called = λ same. absurd (omega (arith, here, same)) }

-- each call replaces the one change of each method by its own
method_short : (i : ℕ) → i < 8 → length (spelling_at spellings.methods i) ≡ 1
method_short = each (λ i. length (spelling_at spellings.methods i) ≡ 1) 8 ((((((((tt, refl), refl), refl), refl), refl), refl), refl), refl)

call_short : (i : ℕ) → i < 3 → length (spelling_at spellings.calls i) ≡ 1
call_short = each (λ i. length (spelling_at spellings.calls i) ≡ 1) 3 (((tt, refl), refl), refl)

replaced : (i : ℕ) → i < 3 → unwrap_or (over_at file i) (length (spelling_at spellings.calls i)) ≡ 1
replaced = each (λ i. unwrap_or (over_at file i) (length (spelling_at spellings.calls i)) ≡ 1) 3 (((tt, refl), refl), refl)

fits : (call method : ℕ) → call < 3 → method < 8 → Fits file spellings call method
fits call method of_calls of_methods =
    let short = method_short method of_methods in
    let own = call_short call of_calls in
    let over = replaced call of_calls in
    let long = called_length (over_at file call) (spelling_at spellings.calls call) (spelling_at spellings.methods method) in
    record { over = omega (arith, short, over); short = omega (arith, long, short, own, over) }

pub eight_pass : CallsPass file 5 spellings
eight_pass = record {
  before = record {
    before = record { before = record { before = spell; overs = each (OverIsRight file) 3 (((tt, tt), tt), tt) }; marks = mark_right };
    fits = λ call of_calls method of_methods named. fits call method of_calls of_methods;
  };
  apart = λ second of_calls first below same. (
      let here = mark_is second of_calls in
      let there = mark_is first (omega arith) in
      absurd (omega (arith, here, there, same))
      );
}
