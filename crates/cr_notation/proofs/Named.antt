-- Named places: one more, and what stands between.
use Rattle.std.proofs.Common.{◌≡◌, ℕ, suc, ◌+◌, ◌-◌, ◌%◌, ◌<◌, ◌≤◌, false, List, [], ◌∷◌, ◌++◌, length, get_or, refl, sym, ap, ◌∙◌, arith}
use Rattle.std.proofs.lemmas.Bool.Decides.{nat_tests}
use Rattle.std.specs.Prelude.{nat_eq, nat_lt, nat_le}
use Rattle.std.proofs.lemmas.List.{get_or_default}
use Rattle.cr_row.specs.Rows.{IsNext}
use Rattle.cr_model.specs.Notation.{IsNamed, last_named, first_implied}

pub even_from : (n : ℕ) → nat_eq (n % 2) 1 ≡ false → n % 2 ≡ 0
even_from n h = grind (arith, nat_tests)

pub even_test : (n : ℕ) → n % 2 ≡ 0 → nat_eq (n % 2) 1 ≡ false
even_test n h = grind (arith, nat_tests)

pub at_most_from : (n p : ℕ) → nat_lt n p ≡ false → p ≤ n
at_most_from n p h = grind (arith, nat_tests)

pub at_most_test : (n p : ℕ) → p ≤ n → nat_lt n p ≡ false
at_most_test n p h = grind (arith, nat_tests)

pub next_from : (q p : ℕ) → nat_le p q ≡ false → nat_eq ((p - q - 1) % 2) 1 ≡ false → IsNext q p
next_from q p above gap =
    let up : q < p = grind (arith, nat_tests) in
    let even : (p - q - 1) % 2 ≡ 0 = even_from (p - q - 1) gap in
    let one : p - q ≡ (p - q - 1) + 1 = omega arith in
    (up, omega arith)

pub above_test : (q p : ℕ) → IsNext q p → nat_le p q ≡ false
above_test q p h = let up : q < p = h.0 in grind (arith, nat_tests)

pub gap_test : (q p : ℕ) → IsNext q p → nat_eq ((p - q - 1) % 2) 1 ≡ false
gap_test q p h =
    let up : q < p = h.0 in
    let odd : (p - q) % 2 ≡ 1 = h.1 in
    let one : p - q ≡ (p - q - 1) + 1 = omega arith in
    let even : (p - q - 1) % 2 ≡ 0 = omega arith in
    even_test (p - q - 1) even

-- one more place at the end
pub named_more : (n : ℕ) (named : List ℕ) (p : ℕ) → IsNamed n named → p ≤ n → IsNext (last_named named) p → IsNamed n (named ++ p ∷ [])
named_more n [] p h at_most next = absurd h
named_more n (q ∷ []) p h at_most next = (h, next, at_most)
named_more n (q ∷ r ∷ named) p h at_most next = (h.0, h.1, named_more n (r ∷ named) p h.2 at_most next)

-- the place after an opened group's is next to its last
pub named_next : (n : ℕ) (named : List ℕ) (p : ℕ) (more : List ℕ) → IsNamed n named → IsNamed n (named ++ p ∷ more) → IsNext (last_named named) p
named_next n [] p more opened h = absurd opened
named_next n (q ∷ []) p more opened h = h.1
named_next n (q ∷ r ∷ named) p more opened h = named_next n (r ∷ named) p more opened.2 h.2

pub named_at_most : (n : ℕ) (named : List ℕ) (p : ℕ) (more : List ℕ) → IsNamed n (named ++ p ∷ more) → p ≤ n
named_at_most n [] p [] h = h
named_at_most n [] p (q ∷ more) h = h.0
named_at_most n (q ∷ []) p more h = named_at_most n [] p more h.2
named_at_most n (q ∷ r ∷ named) p more h = named_at_most n (r ∷ named) p more h.2

-- the first places of a group are named by the rules too
pub named_front : (n : ℕ) (named : List ℕ) (p : ℕ) (more : List ℕ) → IsNamed n named → IsNamed n (named ++ p ∷ more) → IsNamed n (named ++ p ∷ [])
named_front n named p more opened h = named_more n named p opened (named_at_most n named p more h) (named_next n named p more opened h)

pub some_named : (n : ℕ) (named : List ℕ) → IsNamed n named → 1 ≤ length named
some_named n [] h = absurd h
some_named n (p ∷ named) h = omega arith

pub last_at : (named : List ℕ) → 1 ≤ length named → last_named named ≡ get_or named (length named - 1) 0
last_at [] some = absurd (omega arith)
last_at (p ∷ []) some = refl
last_at (p ∷ q ∷ named) some =
    let low : 1 ≤ length (q ∷ named) = omega arith in
    let back : suc (length (q ∷ named) - 1) ≡ length (p ∷ q ∷ named) - 1 = omega arith in
    last_at (q ∷ named) low ∙ ap (λ i. get_or (p ∷ q ∷ named) i 0) back

pub last_low : (n : ℕ) (named : List ℕ) → IsNamed n named → last_named named ≤ n
last_low n [] h = absurd h
last_low n (p ∷ []) h = h
last_low n (p ∷ q ∷ named) h = last_low n (q ∷ named) h.2

pub first_same : (named more : List ℕ) → 1 ≤ length named → first_implied (named ++ more) ≡ first_implied named
first_same [] more some = absurd (omega arith)
first_same (p ∷ named) more some = refl

pub first_kept : (named more : List ℕ) → 1 ≤ length named → get_or (named ++ more) 0 0 ≡ get_or named 0 0
first_kept [] more some = absurd (omega arith)
first_kept (p ∷ named) more some = refl

-- what a read of the last place gives
pub last_read : (named : List ℕ) (len x : ℕ) → 1 ≤ length named → len ≡ length named → x ≡ get_or named (len - 1) x → x ≡ last_named named
last_read named len x some whole e =
    let low : length named - 1 < length named = omega arith in
    e ∙ ap (λ i. get_or named (i - 1) x) whole ∙ get_or_default named (length named - 1) x 0 low ∙ sym (last_at named some)
