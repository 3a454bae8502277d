-- Pieces of a line: which bytes they lack, and what they tell.
use Rattle.std.proofs.Common.{◌≡◌, ℕ, inl, inr, Bool, true, false, nat_eq, List, [], ◌∷◌, ◌++◌, length, take, drop, decimal, refl, sym, ap, ap₂, ◌+◌, ◌∙◌, take-append-drop}
use Rattle.std.specs.List.{list_any, list_all}
use Rattle.std.specs.Char.{is_ascii_digit}
use Rattle.std.specs.Str.{bytes_eq}
use Rattle.std.proofs.lemmas.Slice.Eq.{bytes_eq-Decides}
use Rattle.std.specs.Prelude.{Option, Some, None, IfSome, IfNone}
use Rattle.std.specs.Option.{MatchOption}
use Rattle.std.proofs.lemmas.Bool.{or_from, and_parts, eqb-true, cases_Bool, both_ways}
use Rattle.std.proofs.lemmas.List.{take_at, append_cancel_left}
use Rattle.std.proofs.lemmas.List.Folds.{list_any-append}
use Rattle.cr_model.specs.Texts.{IsNumber, Lacks, NoneTells, named}
use Rattle.cr_model.proofs.Numerals.{numeral_of}

-- a text of bytes that pass a test lacks a byte that does not
pub lacks_where : (test : ℕ → Bool) (byte : ℕ) → test byte ≡ false → (text : List ℕ) → list_all test text ≡ true → Lacks byte text
lacks_where test byte fails [] all = refl
lacks_where test byte fails (x ∷ text) all =
    let both = and_parts (test x) (list_all test text) all in
    or_from (nat_eq byte x) (list_any (nat_eq byte) text)
    (elim (cases_Bool (nat_eq byte x)) [
      | inl same ↦ absurd (both_ways (test byte) fails (ap test (eqb-true byte x same) ∙ both.0))
      | inr other ↦ other
    ])
    (lacks_where test byte fails text both.1)

pub lacks_joined : (byte : ℕ) (a b : List ℕ) → Lacks byte a → Lacks byte b → Lacks byte (a ++ b)
lacks_joined byte a b first second = list_any-append (nat_eq byte) a b ∙ or_from (list_any (nat_eq byte) a) (list_any (nat_eq byte) b) first second

pub number_lacks : (byte n : ℕ) → is_ascii_digit byte ≡ false → IsNumber n → Lacks byte (decimal n)
number_lacks byte n fails small = lacks_where is_ascii_digit byte fails (decimal n) (numeral_of n small).all

-- what stripping a word tells
pub stripped_some : {X : Type 0} (view : X → List ℕ) (text word : List ℕ) (r : Option X)
    → MatchOption r (bytes_eq (take (length word) text) word ≡ false) (λ x. (bytes_eq (take (length word) text) word ≡ true) × (view x ≡ drop (length word) text) × (length (view x) + length word ≡ length text))
    → IfSome r (λ rest. text ≡ word ++ view rest)
stripped_some view text word None tells = tt
stripped_some view text word (Some rest) tells =
    sym (take-append-drop (length word) text) ∙ ap₂ ◌++◌ ((bytes_eq-Decides (take (length word) text) word).0 tells.0) (sym tells.1)

pub stripped_none : {X : Type 0} (view : X → List ℕ) (text word : List ℕ) (r : Option X)
    → MatchOption r (bytes_eq (take (length word) text) word ≡ false) (λ x. (bytes_eq (take (length word) text) word ≡ true) × (view x ≡ drop (length word) text) × (length (view x) + length word ≡ length text))
    → IfNone r ((rest : List ℕ) → text ≡ word ++ rest → ⊥)
stripped_none view text word (Some rest) tells = tt
stripped_none view text word None tells = λ rest same.
    both_ways _ tells ((bytes_eq-Decides (take (length word) text) word).1 (ap (take (length word)) same ∙ take_at word rest (length word) refl))

pub if_none : {X : Type 0} (r : Option X) (Q : Type 0) → Q → IfNone r Q
if_none None Q holds = holds
if_none (Some x) Q holds = tt

-- a word without a number after it
pub no_number : (line word digits : List ℕ) → line ≡ word ++ digits → NoneTells decimal IsNumber digits → NoneTells (named word) IsNumber line
no_number line word digits is none n small same = none n small (append_cancel_left word digits (decimal n) (sym is ∙ same))

pub no_number_after : {X : Type 0} (line word digits : List ℕ) (r : Option X) → line ≡ word ++ digits → IfNone r (NoneTells decimal IsNumber digits)
    → IfNone r (NoneTells (named word) IsNumber line)
no_number_after line word digits None is tells = no_number line word digits is tells
no_number_after line word digits (Some n) is tells = tt
