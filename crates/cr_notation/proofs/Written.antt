-- The places of a change, as they are written.
use Rattle.std.proofs.Common.{◌≡◌, ℕ, ◌+◌, ◌<◌, ◌≤◌, Bool, true, false, cond, ◌||◌, ◌&&◌, List, [], ◌∷◌, ◌++◌, length, get_or, drop, map, refl, sym, ap, ◌∙◌, arith, append_assoc}
use Rattle.std.specs.Prelude.{nat_eq, nat_lt}
use Rattle.std.specs.List.{list_any}
use Rattle.std.proofs.lemmas.List.{append-nil, drop_more, drop_all}
use Rattle.std.proofs.lemmas.Bool.Decides.{nat_tests}
use Rattle.cr_row.specs.Rows.{Places, IsChain, IsChange}
use Rattle.cr_row.specs.Symbols.{symbol_of}
use Rattle.cr_model.specs.NotationTexts.{places_text, dot_between, canonical_text}
use Rattle.cr_notation.specs.Writing.{has_places, dot_if, at_least, text_after}

-- the last of a chain is at most the stage
pub chain_low : (n before : ℕ) (ps : List ℕ) → IsChain n before ps → before ≤ n
chain_low n before [] h = omega arith
chain_low n before (p ∷ ps) h = let low : p ≤ n = chain_low n p ps h.1 in omega arith

from_kept : (p q : ℕ) (qs : List ℕ) → nat_lt q p ≡ false → at_least p (q ∷ qs) ≡ q ∷ qs
from_kept p q qs h = ap (λ b. cond b (at_least p qs) (q ∷ qs)) h

from_skipped : (p q : ℕ) (qs : List ℕ) → nat_lt q p ≡ true → at_least p (q ∷ qs) ≡ at_least p qs
from_skipped p q qs h = ap (λ b. cond b (at_least p qs) (q ∷ qs)) h

-- all of a chain, where it starts no lower
all_kept : (n before p : ℕ) (ps : List ℕ) → IsChain n before ps → p ≤ before + 1 → at_least p ps ≡ ps
all_kept n before p [] h low = refl
all_kept n before p (q ∷ qs) h low = let up : nat_lt q p ≡ false = (let next : before < q = h.0.0 in grind (arith, nat_tests)) in from_kept p q qs up

-- nothing above the stage
none_kept : (n before p : ℕ) (ps : List ℕ) → IsChain n before ps → n < p → at_least p ps ≡ []
none_kept n before p [] h high = refl
none_kept n before p (q ∷ qs) h high =
    let low : q ≤ n = chain_low n q qs h.1 in
    let below : nat_lt q p ≡ true = grind (arith, nat_tests) in
    from_skipped p q qs below ∙ none_kept n q p qs h.1 high

-- a place of a chain is above what it starts from
above_start : (n before p : ℕ) (ps : List ℕ) → IsChain n before ps → list_any (nat_eq p) ps ≡ true → before < p
above_start n before p [] h e = absurd cc
above_start n before p (q ∷ qs) h e = either (nat_eq p q) refl e (λ later. above_start n q p qs h.1 later)
  where
    either : (b : Bool) → nat_eq p q ≡ b → (b || list_any (nat_eq p) qs) ≡ true → (list_any (nat_eq p) qs ≡ true → q < p) → before < p
    either true is any later = let up : before < q = h.0.0 in grind (arith, nat_tests)
    either false is any later = let up : before < q = h.0.0 in let further : q < p = later any in omega arith

place_kept : (n before p : ℕ) (ps : List ℕ) → IsChain n before ps → list_any (nat_eq p) ps ≡ true → at_least p ps ≡ p ∷ at_least (p + 1) ps
place_kept n before p [] h e = absurd cc
place_kept n before p (q ∷ qs) h e = either (nat_eq p q) refl e (λ later. place_kept n q p qs h.1 later)
  where
    either : (b : Bool) → nat_eq p q ≡ b → (b || list_any (nat_eq p) qs) ≡ true → (list_any (nat_eq p) qs ≡ true → at_least p qs ≡ p ∷ at_least (p + 1) qs) → at_least p (q ∷ qs) ≡ p ∷ at_least (p + 1) (q ∷ qs)
    either true is any later =
        let same : p ≡ q = grind (arith, nat_tests) in
        let here : nat_lt q p ≡ false = grind (arith, nat_tests) in
        let past : nat_lt q (p + 1) ≡ true = grind (arith, nat_tests) in
        from_kept p q qs here ∙ ap (λ x. x ∷ qs) (sym same) ∙ ap (λ xs. p ∷ xs) (sym (from_skipped (p + 1) q qs past ∙ all_kept n q (p + 1) qs h.1 (omega arith)))
    either false is any later =
        let up : q < p = above_start n q p qs h.1 any in
        let here : nat_lt q p ≡ true = grind (arith, nat_tests) in
        let past : nat_lt q (p + 1) ≡ true = grind (arith, nat_tests) in
        from_skipped p q qs here ∙ later any ∙ ap (λ xs. p ∷ xs) (sym (from_skipped (p + 1) q qs past))

pub place_left_out : (p : ℕ) (ps : List ℕ) → list_any (nat_eq p) ps ≡ false → at_least p ps ≡ at_least (p + 1) ps
place_left_out p [] e = refl
place_left_out p (q ∷ qs) e = either (nat_eq p q) (nat_lt q p) refl refl e (λ later. place_left_out p qs later)
  where
    either : (b c : Bool) → nat_eq p q ≡ b → nat_lt q p ≡ c → (b || list_any (nat_eq p) qs) ≡ false → (list_any (nat_eq p) qs ≡ false → at_least p qs ≡ at_least (p + 1) qs) → at_least p (q ∷ qs) ≡ at_least (p + 1) (q ∷ qs)
    either true c is lt any later = absurd cc
    either false true is lt any later =
        let past : nat_lt q (p + 1) ≡ true = grind (arith, nat_tests) in
        from_skipped p q qs lt ∙ later any ∙ sym (from_skipped (p + 1) q qs past)
    either false false is lt any later =
        let past : nat_lt q (p + 1) ≡ false = grind (arith, nat_tests) in
        from_kept p q qs lt ∙ sym (from_kept (p + 1) q qs past)

-- ---- a change's places, one after another

pub first_of_change : (n : ℕ) (made : List ℕ) → IsChange (record { stage = n; made = made }) → at_least 1 made ≡ made
first_of_change n made h = all_kept n 0 1 made h (omega arith)

pub last_of_change : (n p : ℕ) (made : List ℕ) → IsChange (record { stage = n; made = made }) → n < p → at_least p made ≡ []
last_of_change n p made h high = none_kept n 0 p made h high

pub some_places : (p : ℕ) (made : List ℕ) → list_any (nat_eq p) made ≡ true → has_places made ≡ true
some_places p [] e = absurd cc
some_places p (q ∷ qs) e = refl

pub no_places : (made : List ℕ) → made ≡ [] → has_places made ≡ false
no_places made e = ap has_places e

pub place_written : (n p : ℕ) (made bytes old : List ℕ) → IsChange (record { stage = n; made = made }) → list_any (nat_eq p) made ≡ true → bytes ++ map symbol_of (at_least p made) ≡ old → (bytes ++ symbol_of p ∷ []) ++ map symbol_of (at_least (p + 1) made) ≡ old
place_written n p made bytes old h e so_far =
    append_assoc bytes (symbol_of p ∷ []) (map symbol_of (at_least (p + 1) made)) ∙ ap (λ ps. bytes ++ map symbol_of ps) (sym (place_kept n 0 p made h e)) ∙ so_far

pub place_not_written : (p : ℕ) (made bytes old : List ℕ) → list_any (nat_eq p) made ≡ false → bytes ++ map symbol_of (at_least p made) ≡ old → bytes ++ map symbol_of (at_least (p + 1) made) ≡ old
place_not_written p made bytes old e so_far = ap (λ ps. bytes ++ map symbol_of ps) (sym (place_left_out p made e)) ∙ so_far

pub places_written : (made bytes old rest : List ℕ) → rest ≡ [] → bytes ++ map symbol_of rest ≡ old → bytes ≡ old
places_written made bytes old rest e so_far = sym (append-nil bytes) ∙ ap (λ ps. bytes ++ map symbol_of ps) (sym e) ∙ so_far

pub with_places : (made : List ℕ) → has_places made ≡ true → places_text made ≡ map symbol_of made
with_places [] e = absurd cc
with_places (p ∷ ps) e = refl

pub without_places : (made : List ℕ) → has_places made ≡ false → places_text made ≡ 120 ∷ []
without_places [] e = refl
without_places (p ∷ ps) e = absurd cc

-- ---- the changes, one after another

dot_is : (made next : List ℕ) → dot_between made next ≡ cond (has_places made && has_places next) (46 ∷ []) []
dot_is [] next = refl
dot_is (p ∷ ps) [] = refl
dot_is (p ∷ ps) (q ∷ qs) = refl

text_first : (change : Places) (changes : List Places) → canonical_text (change ∷ changes) ≡ places_text change.made ++ text_after (has_places change.made) changes
text_first change [] = sym (append-nil (places_text change.made))
text_first change (next ∷ changes) =
    append_assoc (places_text change.made) (dot_between change.made next.made) (canonical_text (next ∷ changes)) ∙ ap (λ dots. places_text change.made ++ (dots ++ canonical_text (next ∷ changes))) (dot_is change.made next.made)

-- one change more
pub change_written : (changes : List Places) (i : ℕ) (this : Places) (old new : List ℕ) (some : Bool) (whole : List ℕ) → i < length changes → this ≡ get_or changes i this → new ≡ (old ++ dot_if (some && has_places this.made)) ++ places_text this.made
    → old ++ text_after some (drop i changes) ≡ whole → new ++ text_after (has_places this.made) (drop (i + 1) changes) ≡ whole
change_written changes i this old new some whole low read is so_far =
    let later : List Places = drop (i + 1) changes in
    let dots : List ℕ = dot_if (some && has_places this.made) in
    let next : drop i changes ≡ this ∷ later = drop_more changes i this low ∙ ap (λ c. c ∷ later) (sym read) in
    ap (λ text. text ++ text_after (has_places this.made) later) is
    ∙ append_assoc (old ++ dots) (places_text this.made) (text_after (has_places this.made) later)
    ∙ ap (λ text. (old ++ dots) ++ text) (sym (text_first this later))
    ∙ append_assoc old dots (canonical_text (this ∷ later))
    ∙ ap (λ all. old ++ text_after some all) (sym next) ∙ so_far

pub changes_written : (changes : List Places) (i : ℕ) (bytes : List ℕ) (some : Bool) (whole : List ℕ) → length changes ≤ i → bytes ++ text_after some (drop i changes) ≡ whole → bytes ≡ whole
changes_written changes i bytes some whole high so_far =
    sym (append-nil bytes) ∙ ap (λ all. bytes ++ text_after some all) (sym (drop_all i changes high)) ∙ so_far
