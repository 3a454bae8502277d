-- The places of a change, one after another.
use Rattle.std.proofs.Common.{◌≡◌, ℕ, ◌+◌, ◌-◌, ◌%◌, ◌≤◌, Bool, true, false, cond, List, [], ◌∷◌, ◌++◌, get_or, refl, arith}
use Rattle.std.specs.Prelude.{nat_eq}
use Rattle.std.proofs.lemmas.Bool.Decides.{nat_tests}
use Rattle.cr_row.specs.Rows.{IsChain, IsChange}
use Rattle.cr_model.specs.Notation.{group, crossing, first_implied, last_implied, change_of, IsNamed}

-- ---- a group's

last_place : (n p : ℕ) (b : Bool) → nat_eq ((n - p) % 2) 1 ≡ b → p ≤ n → IsChain n p (cond b (n ∷ []) [])
last_place n p true h low =
    let odd : (n - p) % 2 ≡ 1 = grind (arith, nat_tests) in
    ((omega arith, odd), (omega arith, omega arith))
last_place n p false h low =
    let even : (n - p) % 2 ≡ 0 = grind (arith, nat_tests) in
    let one : n + 1 - p ≡ (n - p) + 1 = omega arith in
    (omega arith, omega arith)

last_places : (n p : ℕ) (ps : List ℕ) → IsNamed n (p ∷ ps) → IsChain n p (ps ++ last_implied n (p ∷ ps))
last_places n p [] h = last_place n p (nat_eq ((n - p) % 2) 1) refl h
last_places n p (q ∷ ps) h = (h.1, last_places n q ps h.2)

first_place : (n p : ℕ) (rest : List ℕ) (b : Bool) → nat_eq ((p - 1) % 2) 1 ≡ b → 1 ≤ p → IsChain n p rest → IsChain n 0 (cond b (1 ∷ []) [] ++ (p ∷ rest))
first_place n p rest true h low chain =
    let odd : (p - 1) % 2 ≡ 1 = grind (arith, nat_tests) in
    ((omega arith, refl), ((omega arith, odd), chain))
first_place n p rest false h low chain =
    let even : (p - 1) % 2 ≡ 0 = grind (arith, nat_tests) in
    ((omega arith, omega arith), chain)

pub group_chain : (n : ℕ) (named : List ℕ) → IsNamed n named → 1 ≤ get_or named 0 0 → IsChain n 0 (first_implied named ++ (named ++ last_implied n named))
group_chain n [] h low = absurd h
group_chain n (p ∷ ps) h low = first_place n p (ps ++ last_implied n (p ∷ ps)) (nat_eq ((p - 1) % 2) 1) refl low (last_places n p ps h)

-- what a group stands for is a change
pub group_is_change : (n : ℕ) (named : List ℕ) → IsNamed n named → 1 ≤ get_or named 0 0 → IsChange (change_of n (group named))
group_is_change n named h low = group_chain n named h low

-- a cross on an even stage is one too
pub cross_is_change : (n : ℕ) → n % 2 ≡ 0 → IsChange (change_of n crossing)
cross_is_change n even = (omega arith, omega arith)
