-- A file of two methods and two calls by example.
use Rattle.std.proofs.Common.{◌≡◌, ℕ, ◌<◌, pos, true, false, Option, None, Some, Ok, List, [], ◌∷◌, codes, refl, arith}
use Rattle.std.specs.Prelude.{map}
use Rattle.std.proofs.lemmas.Bool.{false≢true}
use Rattle.cr_row.specs.Rows.{Places}
use Rattle.cr_model.specs.Examples.{on_four}
use Rattle.cr_model.specs.Right.{LetterIsRight}
use Rattle.cr_model.specs.Files.{FileParts}
use Rattle.cr_model.specs.ProblemFiles.{Spellings, letters_of, mark_at, MarkIsRight, OverIsRight, Suits, FitsAll, AreApart, IsApart, LettersPass, CallsSpell, MarksPass, CallsPass}
use Rattle.cr_notation.specs.Reading.{read_all, read_from, byte_step, step, place_step, cross_step, dot_step, comma_step, end_step, closed}
use Rattle.cr_read.proofs.ByExample.{each, spelled}

-- the call for both methods may name them
abbrev pub file : Option (List ℕ) → FileParts
file methods = record {
  stage = pos 4;
  methods = record { letter = codes "C"; notation = codes "x14" } ∷ record { letter = codes "A"; notation = codes "14x" } ∷ [];
  calls =
      record { mark = codes "s"; notation = codes "12"; over = None; methods = methods }
      ∷ record { mark = codes "b"; notation = codes "1234"; over = None; methods = Some (codes "A") }
      ∷ [];
  min = pos 1;
  max = pos 24;
  parts = pos 1;
  counts = [];
  leads = [];
  patterns = [];
  «com» = None;
}

abbrev first_method : List Places
first_method = map on_four ([] ∷ (1 ∷ 4 ∷ []) ∷ [])

abbrev second_method : List Places
second_method = map on_four ((1 ∷ 4 ∷ []) ∷ [] ∷ [])

abbrev first_call : List Places
first_call = map on_four ((1 ∷ 2 ∷ []) ∷ [])

abbrev second_call : List Places
second_call = map on_four ((1 ∷ 2 ∷ 3 ∷ 4 ∷ []) ∷ [])

abbrev pub spellings : Spellings
spellings = record { methods = first_method ∷ second_method ∷ []; calls = first_call ∷ second_call ∷ [] }

texts_read : (read_all 4 (codes "x14") ≡ Ok first_method) × (read_all 4 (codes "14x") ≡ Ok second_method)
    × (read_all 4 (codes "12") ≡ Ok first_call) × (read_all 4 (codes "1234") ≡ Ok second_call)
unfolding read_all read_from byte_step step place_step cross_step dot_step comma_step end_step closed
texts_read = (refl, refl, refl, refl)

module _ (methods : Option (List ℕ)) where
  letters : LettersPass (file methods) 4
  letters = record {
    before = record { is = refl; from = omega arith; to = omega arith };
    letters = each (LetterIsRight (letters_of (file methods))) 2 (
      (tt, record { few = omega arith; from = omega arith; to = omega arith; new = λ j h. absurd (omega arith) }),
      record {
        few = omega arith;
        from = omega arith;
        to = omega arith;
        new = each _ 1 (tt, λ e. absurd (omega (arith, e)));
      },
    );
  }

  spell : CallsSpell (file methods) 4 spellings
  spell = record {
    before = record { before = letters; methods_spell = (spelled 4 _ first_method texts_read.0, (spelled 4 _ second_method texts_read.1, tt)) };
    calls_spell = (spelled 4 _ first_call texts_read.2, (spelled 4 _ second_call texts_read.3, tt));
  }

  marks : MarksPass (file methods) 4 spellings
  marks = record {
    before = record { before = spell; overs = each (OverIsRight (file methods)) 2 ((tt, tt), tt) };
    marks = each (λ call. MarkIsRight (mark_at (file methods) call)) 2 (
      (tt, record { from = omega arith; to = omega arith; called = λ e. absurd (omega (arith, e)) }),
      record { from = omega arith; to = omega arith; called = λ e. absurd (omega (arith, e)) },
    );
  }

  fits : (call : ℕ) → call < 2 → FitsAll (file methods) spellings call
  fits = each (FitsAll (file methods) spellings) 2 (
    (tt, each (Suits (file methods) spellings 0) 2 ((tt, λ named. record { over = omega arith; short = omega arith }), λ named. record { over = omega arith; short = omega arith })),
    each (Suits (file methods) spellings 1) 2 ((tt, λ named. absurd (false≢true named)), λ named. record { over = omega arith; short = omega arith }),
  )

  pub steps_pass : CallsPass (file methods) 4 spellings
  steps_pass = record {
    before = record { before = marks; fits = fits };
    apart = each (IsApart (file methods)) 2 (
      (tt, λ first h. absurd (omega arith)),
      each (λ first. AreApart (file methods) first 1) 1 (tt, λ same. absurd (omega (arith, same))),
    );
  }
