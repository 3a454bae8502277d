-- The files of Plain Bob Doubles by example.
use Rattle.std.proofs.Common.{◌≡◌, ℕ, ◌≤◌, ℤ, pos, ◌≤ℤ◌, nat_abs, Option, Some, IfSome, unwrap_or, Ok, List, [], ◌∷◌, length, codes, refl, sym, subst, arith}
use Rattle.std.specs.Prelude.{option_map, map}
use Rattle.cr_row.specs.Rows.{Places}
use Rattle.cr_model.specs.Callings.{called}
use Rattle.cr_model.specs.Examples.{on_five}
use Rattle.cr_model.specs.Files.{FileParts, CallText}
use Rattle.cr_model.specs.ProblemFiles.{Spellings, mark_at, MarkIsRight, OverIsRight, Suits, FitsAll, IsApart, CallsSpell, MarksPass, CallsPass}
use Rattle.cr_notation.specs.Reading.{read_all, read_from, byte_step, step, place_step, cross_step, dot_step, comma_step, end_step, closed}
use Rattle.cr_read.proofs.ByExample.{each, spelled}
use Rattle.cr_read.proofs.OneMethod.{Asked, file_of_one, spellings_of_one, calls_spell}

abbrev pub notation : List ℕ
notation = codes "5.1.5.1.5,125"

-- a call with its notation, and what it says of how many changes it replaces and of its methods
abbrev pub bob : List ℕ → Option ℤ → Option (List ℕ) → CallText
bob mark over methods = record { mark = mark; notation = codes "145"; over = over; methods = methods }

abbrev pub file_with : CallText → Asked → FileParts
file_with call asked = file_of_one 5 notation (call ∷ []) asked

abbrev pub plain_spelling : List Places
plain_spelling = map on_five ((5 ∷ []) ∷ (1 ∷ []) ∷ (5 ∷ []) ∷ (1 ∷ []) ∷ (5 ∷ []) ∷ (1 ∷ []) ∷ (5 ∷ []) ∷ (1 ∷ []) ∷ (5 ∷ []) ∷ (1 ∷ 2 ∷ 5 ∷ []) ∷ [])

abbrev pub bob_spelling : List Places
bob_spelling = map on_five ((1 ∷ 4 ∷ 5 ∷ []) ∷ [])

abbrev pub spellings : Spellings
spellings = spellings_of_one plain_spelling (bob_spelling ∷ [])

pub method_read : read_all 5 notation ≡ Ok plain_spelling
unfolding read_all read_from byte_step step place_step cross_step dot_step comma_step end_step closed
method_read = refl

pub call_read : read_all 5 (codes "145") ≡ Ok bob_spelling
unfolding read_all read_from byte_step step place_step cross_step dot_step comma_step end_step closed
call_read = refl

pub spell : (mark : List ℕ) (over : Option ℤ) (methods : Option (List ℕ)) (asked : Asked)
    → CallsSpell (file_with (bob mark over methods) asked) 5 spellings
spell mark over methods asked = calls_spell 5 (omega arith) (omega arith) notation plain_spelling method_read (bob mark over methods ∷ [])
    (bob_spelling ∷ []) asked (spelled 5 (codes "145") bob_spelling call_read, tt)

module _ (over : Option ℤ) (methods : Option (List ℕ)) (right : IfSome over (λ o. (pos 0 ≤ℤ o) × (o ≤ℤ pos 128)))
    (one : unwrap_or (option_map nat_abs over) 1 ≡ 1) (asked : Asked) where
  abbrev file : FileParts
  file = file_with (bob (codes "b") over methods) asked

  marks : MarksPass file 5 spellings
  marks = record {
    before = record { before = spell (codes "b") over methods asked; overs = each (OverIsRight file) 1 (tt, right) };
    marks = each (λ call. MarkIsRight (mark_at file call)) 1 (tt, record { from = omega arith; to = omega arith; called = λ e. absurd (omega (arith, e)) });
  }

  fits : Suits file spellings 0 0
  fits is_for = record {
    over = omega (arith, one);
    short = subst (λ n. length (called (Some n) bob_spelling plain_spelling) ≤ 128) (sym one) (omega arith);
  }

  pub doubles_pass : CallsPass file 5 spellings
  doubles_pass = record {
    before = record { before = marks; fits = each (FitsAll file spellings) 1 (tt, each (Suits file spellings 0) 1 (tt, fits)) };
    apart = each (IsApart file) 1 (tt, λ first h. absurd (omega arith));
  }
