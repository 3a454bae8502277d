-- The canonical text spells its changes.
use Rattle.std.proofs.Common.{◌≡◌, ℕ, ◌+◌, ◌-◌, ◌%◌, ◌<◌, ◌≤◌, Bool, true, false, cond, List, [], ◌∷◌, ◌++◌, length, get_or, map, refl, sym, ap, subst, ◌∙◌, arith, append_assoc, inl, inr, All}
use Rattle.std.specs.List.{AllByRecursion}
use Rattle.std.proofs.lemmas.List.{append-nil}
use Rattle.std.proofs.lemmas.List.Elements.{recursion_from_All}
use Rattle.cr_row.specs.Rows.{Places, IsNext, IsChain, IsChange}
use Rattle.cr_row.specs.Symbols.{symbol_of}
use Rattle.cr_model.specs.Notation.{Sign, place, is_blank, sign_of, signs_of, Item, crossing, group, item_signs, IsNamed, IsItem, IsBetween, Follow, IsBlock, first_implied, last_implied, change_of, changes_of_items, Spells}
use Rattle.cr_model.specs.NotationTexts.{places_text, dot_between, canonical_text}
use Rattle.cr_notation.proofs.Named.{even_test}
use Rattle.cr_notation.proofs.Signs.{symbol_sign}
use Rattle.cr_notation.proofs.Written.{chain_low}

-- a change of this stage
pub record IsOf (n : ℕ) (change : Places) : Type 0 where
  pub stage : change.stage ≡ n
  pub chain : IsChain n 0 change.made

abbrev item_of : List ℕ → Item
item_of [] = crossing
item_of (p ∷ ps) = group (p ∷ ps)

-- ---- the items of changes

chain_named : (n p : ℕ) (ps : List ℕ) → IsChain n p ps → IsNamed n (p ∷ ps) × (last_implied n (p ∷ ps) ≡ [])
chain_named n p [] h =
    let odd : (n + 1 - p) % 2 ≡ 1 = h.1 in
    let low : p < n + 1 = h.0 in
    let one : n + 1 - p ≡ (n - p) + 1 = omega arith in
    let even : (n - p) % 2 ≡ 0 = omega arith in
    (omega arith, ap (λ b. cond b (n ∷ []) []) (even_test (n - p) even))
chain_named n p (q ∷ qs) h =
    let rest = chain_named n q qs h.1 in
    let at_most : q ≤ n = named_low q qs rest.0 in
    let next : p < q = h.0.0 in
    ((omega arith, h.0, rest.0), rest.1)
  where
    named_low : (q : ℕ) (qs : List ℕ) → IsNamed n (q ∷ qs) → q ≤ n
    named_low q [] h = h
    named_low q (r ∷ qs) h = h.0

none_first : (n p : ℕ) (ps : List ℕ) → IsNext 0 p → first_implied (p ∷ ps) ≡ []
none_first n p ps h =
    let up : 0 < p = h.0 in
    let odd : (p - 0) % 2 ≡ 1 = h.1 in
    let even : (p - 1) % 2 ≡ 0 = omega arith in
    ap (λ b. cond b (1 ∷ []) []) (even_test (p - 1) even)

item_fits : (n : ℕ) (made : List ℕ) → IsChain n 0 made → IsItem n (item_of made)
item_fits n [] h = let odd : (n + 1 - 0) % 2 ≡ 1 = h.1 in omega arith
item_fits n (p ∷ ps) h = (chain_named n p ps h.1).0

made_of : (n : ℕ) (made : List ℕ) → IsChain n 0 made → change_of n (item_of made) ≡ record { stage = n; made = made }
made_of n [] h = refl
made_of n (p ∷ ps) h =
    let named = chain_named n p ps h.1 in
    let made_is : first_implied (p ∷ ps) ++ ((p ∷ ps) ++ last_implied n (p ∷ ps)) ≡ p ∷ ps =
    ap (λ first. first ++ ((p ∷ ps) ++ last_implied n (p ∷ ps))) (none_first n p ps h.0) ∙ ap (λ last. (p ∷ ps) ++ last) named.1 ∙ append-nil (p ∷ ps) in
    ap (λ made. record { stage = n; made = made }) made_is

change_is : (n : ℕ) (change : Places) → IsOf n change → change_of n (item_of change.made) ≡ change
change_is n change h = made_of n change.made h.chain ∙ ap (λ stage. record { stage = stage; made = change.made }) (sym h.stage)

changes_are : (n : ℕ) (changes : List Places) → AllByRecursion (IsOf n) changes → changes_of_items n (map (λ change. item_of change.made) changes) ≡ changes
changes_are n [] h = refl
changes_are n (change ∷ changes) h = ap (λ first. first ∷ changes_of_items n (map (λ c. item_of c.made) changes)) (change_is n change h.0) ∙ ap (λ rest. change ∷ rest) (changes_are n changes h.1)

-- ---- the signs of texts

signs_append : (a b : List ℕ) → signs_of (a ++ b) ≡ signs_of a ++ signs_of b
signs_append [] b = refl
signs_append (byte ∷ a) b = either (is_blank byte) (signs_append a b)
  where
    either : (blank : Bool) → signs_of (a ++ b) ≡ signs_of a ++ signs_of b → cond blank (signs_of (a ++ b)) (sign_of byte ∷ signs_of (a ++ b)) ≡ cond blank (signs_of a) (sign_of byte ∷ signs_of a) ++ signs_of b
    either true same = same
    either false same = ap (λ signs. sign_of byte ∷ signs) same

symbols_signs : (n before : ℕ) (ps : List ℕ) → n ≤ 16 → IsChain n before ps → signs_of (map symbol_of ps) ≡ map place ps
symbols_signs n before [] few h = refl
symbols_signs n before (p ∷ ps) few h =
    let up : before < p = h.0.0 in
    let low : p ≤ n = chain_low n p ps h.1 in
    let known = symbol_sign p (omega arith) (omega arith) in
    ap (λ blank. cond blank (signs_of (map symbol_of ps)) (sign_of (symbol_of p) ∷ signs_of (map symbol_of ps))) known.0
    ∙ ap (λ sign. sign ∷ signs_of (map symbol_of ps)) known.1 ∙ ap (λ signs. place p ∷ signs) (symbols_signs n p ps few h.1)

places_signs : (n : ℕ) (made : List ℕ) → n ≤ 16 → IsChain n 0 made → signs_of (places_text made) ≡ item_signs (item_of made)
places_signs n [] few h = refl
places_signs n (p ∷ ps) few h = symbols_signs n 0 (p ∷ ps) few h

between : (made next : List ℕ) → IsBetween (item_of made) (item_of next) (signs_of (dot_between made next))
between [] next = inr (refl, refl)
between (p ∷ ps) [] = inr (refl, refl)
between (p ∷ ps) (q ∷ qs) = inl refl

record Signed (n : ℕ) (change : Places) (changes : List Places) : Type 0 where
  pub rest : List Sign
  pub signs : signs_of (canonical_text (change ∷ changes)) ≡ item_signs (item_of change.made) ++ rest
  pub follow : Follow n (item_of change.made) (map (λ c. item_of c.made) changes) rest

signed : (n : ℕ) (change : Places) (changes : List Places) → n ≤ 16 → IsOf n change → AllByRecursion (IsOf n) changes → Signed n change changes
signed n change [] few h others = record { rest = []; signs = places_signs n change.made few h.chain ∙ sym (append-nil (item_signs (item_of change.made))); follow = refl }
signed n change (next ∷ changes) few h others =
    let later = signed n next changes few others.0 others.1 in
    let dots : List Sign = signs_of (dot_between change.made next.made) in
    let tail : List Sign = item_signs (item_of next.made) ++ later.rest in
    record {
      rest = dots ++ tail;
      signs = signs_append (places_text change.made ++ dot_between change.made next.made) (canonical_text (next ∷ changes))
          ∙ ap (λ signs. signs ++ signs_of (canonical_text (next ∷ changes))) (signs_append (places_text change.made) (dot_between change.made next.made))
          ∙ append_assoc (signs_of (places_text change.made)) dots (signs_of (canonical_text (next ∷ changes)))
          ∙ ap (λ signs. signs ++ (dots ++ signs_of (canonical_text (next ∷ changes)))) (places_signs n change.made few h.chain)
          ∙ ap (λ signs. item_signs (item_of change.made) ++ (dots ++ signs)) later.signs;
      follow = (dots, later.rest, between change.made next.made, item_fits n next.made others.0.chain, later.follow, refl);
    }

canonical_block : (n : ℕ) (changes : List Places) → n ≤ 16 → 1 ≤ length changes → AllByRecursion (IsOf n) changes → IsBlock n (map (λ c. item_of c.made) changes) (signs_of (canonical_text changes))
canonical_block n [] few some h = absurd (omega arith)
canonical_block n (change ∷ changes) few some h =
    let s = signed n change changes few h.0 h.1 in
    (s.rest, item_fits n change.made h.0.chain, s.follow, s.signs)

canonical_by : (n : ℕ) (changes : List Places) → n ≤ 16 → 1 ≤ length changes → length changes ≤ 128 → AllByRecursion (IsOf n) changes → Spells n (canonical_text changes) changes
canonical_by n changes few some most h = record {
  stands = inl (map (λ c. item_of c.made) changes, canonical_block n changes few some h, sym (changes_are n changes h));
  at_least = some;
  at_most = most;
}

pub is_of : (n : ℕ) (change : Places) → change.stage ≡ n → IsChange change → IsOf n change
is_of n change same h = record { stage = same; chain = subst (λ stage. IsChain stage 0 change.made) same h }

pub canonical_spells : (n : ℕ) (changes : List Places) → n ≤ 16 → 1 ≤ length changes → length changes ≤ 128 → All (λ change. change.stage ≡ n) changes → All IsChange changes → Spells n (canonical_text changes) changes
canonical_spells n changes few some most stages h = canonical_by n changes few some most (recursion_from_All (IsOf n) changes (λ k d low. is_of n (get_or changes k d) (stages k d low) (h k d low)))
