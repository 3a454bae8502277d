-- The checks of a file with one method, letter A, up to the marks of its calls.
use Rattle.std.proofs.Common.{◌≡◌, ℕ, ◌<◌, ◌≤◌, ℤ, pos, Option, Ok, List, [], ◌∷◌, length, codes, refl, arith}
use Rattle.std.specs.Prelude.{map}
use Rattle.std.specs.List.{AllZip}
use Rattle.cr_row.specs.Rows.{Places}
use Rattle.cr_model.specs.declared.query.Com.{Com}
use Rattle.cr_model.specs.Notation.{Spells}
use Rattle.cr_model.specs.Right.{LetterIsRight}
use Rattle.cr_model.specs.Files.{FileParts, Limited, CallText}
use Rattle.cr_model.specs.ProblemFiles.{Spellings, letters_of, mark_at, MarkIsRight, OverIsRight, LettersPass, MethodsSpell, CallsSpell, MarksPass}
use Rattle.cr_notation.specs.Reading.{read_all}
use Rattle.cr_read.proofs.ByExample.{each, spelled}

-- what a file asks of a touch
pub record Asked : Type 0 where
  pub min : ℤ
  pub max : ℤ
  pub parts : ℤ
  pub counts : List Limited
  pub leads : List Limited
  pub patterns : List Limited
  pub «com» : Option Com

abbrev pub file_of_one : ℕ → List ℕ → List CallText → Asked → FileParts
file_of_one n notation calls asked = record {
  stage = pos n;
  methods = record { letter = codes "A"; notation = notation } ∷ [];
  calls = calls;
  min = asked.min;
  max = asked.max;
  parts = asked.parts;
  counts = asked.counts;
  leads = asked.leads;
  patterns = asked.patterns;
  «com» = asked.com;
}

-- the stage and the letter are right
pub letters_pass : (n : ℕ) → 3 ≤ n → n ≤ 16 → (notation : List ℕ) (calls : List CallText) (asked : Asked)
    → LettersPass (file_of_one n notation calls asked) n
letters_pass n from to notation calls asked = record {
  before = record { is = refl; from = from; to = to };
  letters = each (LetterIsRight (letters_of (file_of_one n notation calls asked))) 1 (
    tt,
    record { few = omega arith; from = omega arith; to = omega arith; new = λ j h. absurd (omega arith) },
  );
}

abbrev pub spellings_of_one : List Places → List (List Places) → Spellings
spellings_of_one spelling others = record { methods = spelling ∷ []; calls = others }

module _ (n : ℕ) (from : 3 ≤ n) (to : n ≤ 16) (notation : List ℕ) (spelling : List Places) (is : read_all n notation ≡ Ok spelling)
    (calls : List CallText) (others : List (List Places)) (asked : Asked) where
  -- its method spells changes
  pub method_spells : MethodsSpell (file_of_one n notation calls asked) n (spelling ∷ [])
  method_spells = record {
    before = letters_pass n from to notation calls asked;
    methods_spell = (spelled n notation spelling is, tt);
  }

  module _ (all : AllZip (Spells n) (map (λ call. call.notation) calls) others) where
    -- and so do its calls
    pub calls_spell : CallsSpell (file_of_one n notation calls asked) n (spellings_of_one spelling others)
    calls_spell = record { before = method_spells; calls_spell = all }

    -- with marks that are right
    pub marks_pass : ((call : ℕ) → call < length calls → OverIsRight (file_of_one n notation calls asked) call)
        → ((call : ℕ) → call < length calls → MarkIsRight (mark_at (file_of_one n notation calls asked) call))
        → MarksPass (file_of_one n notation calls asked) n (spellings_of_one spelling others)
    marks_pass overs marks = record { before = record { before = calls_spell; overs = overs }; marks = marks }
