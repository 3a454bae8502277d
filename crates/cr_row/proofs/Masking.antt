-- The masks of a change's places give the places back.
use Rattle.std.proofs.Common.{◌≡◌, ℕ, zero, suc, ◌+◌, ◌-◌, ◌*◌, ◌/◌, ◌%◌, ◌^◌, ◌<◌, ◌≤◌, ◌≢◌, ◌⊎◌, Bool, true, false, cond, ◌||◌, List, [], ◌∷◌, nat_eq, refl, ap, sym, ◌∙◌, subst, arith, inl, inr, bit_and}
use Rattle.std.specs.List.{list_any}
use Rattle.std.proofs.lemmas.Bool.{cases_eq}
use Rattle.std.proofs.lemmas.Bool.Decides.{nat_tests}
use Rattle.std.proofs.lemmas.Nat.{shr-shr, and_mask}
use Rattle.cr_row.specs.Rows.{Places, IsChain, IsChange}
use Rattle.cr_row.specs.Masks.{stay_of, first_of, made_of, IsMasked}

pub chain_low : (n before : ℕ) (ps : List ℕ) → IsChain n before ps → before ≤ n
chain_low n before [] h = omega (arith, h.0)
chain_low n before (p ∷ ps) h = omega (arith, h.0.0, chain_low n p ps h.1)

differ : (a b : ℕ) → a ≢ b → nat_eq a b ≡ false
differ a b n = grind (arith, nat_tests)

pub agree : (a b : ℕ) → a ≡ b → nat_eq a b ≡ true
agree a b e = grind (arith, nat_tests)

pub skipped : (p x : ℕ) (xs : List ℕ) → p ≢ x → list_any (nat_eq p) (x ∷ xs) ≡ list_any (nat_eq p) xs
skipped p x xs other = ap (λ b. b || list_any (nat_eq p) xs) (differ p x other)

pub none_from : (p x n : ℕ) (xs : List ℕ) → p ≤ x → IsChain n x xs → list_any (nat_eq p) xs ≡ false
none_from p x n [] low h = refl
none_from p x n (y ∷ ys) low h =
    let above : x < y = h.0.0 in
    let other : p ≢ y = omega arith in
    skipped p y ys other ∙ none_from p y n ys (omega arith) h.1

-- a place below says nothing
stay_below : (n p x : ℕ) (made : List ℕ) → x < p → stay_of n p (x ∷ made) ≡ stay_of n p made
stay_below zero p x made h = refl
stay_below (suc zero) p x made h = refl
stay_below (suc (suc n)) p x made h =
    let other : p ≢ x = omega arith in
    let test : list_any (nat_eq p) (x ∷ made) ≡ list_any (nat_eq p) made = skipped p x made other in
    let one : stay_of (suc n) (p + 1) (x ∷ made) ≡ stay_of (suc n) (p + 1) made = stay_below (suc n) (p + 1) x made (omega arith) in
    let two : stay_of n (p + 2) (x ∷ made) ≡ stay_of n (p + 2) made = stay_below n (p + 2) x made (omega arith) in
    λ i. cond (test i) (15 + 16 * one i) (256 * two i)

made_hit : (n p s : ℕ) → made_of (suc n) p (15 + 16 * s) ≡ p ∷ made_of n (p + 1) s
made_hit n p s =
    let digit : (15 + 16 * s) % 16 ≡ 15 = omega arith in
    let rest : (15 + 16 * s) / 16 ≡ s = omega arith in
    λ i. cond (nat_eq (digit i) 15) (p ∷ made_of n (p + 1) (rest i)) (made_of n (p + 1) (rest i))

made_none : (n p s m : ℕ) → m ≡ 16 * s → made_of (suc n) p m ≡ made_of n (p + 1) s
made_none n p s m e =
    let digit : m % 16 ≡ 0 = omega arith in
    let rest : m / 16 ≡ s = omega arith in
    λ i. cond (nat_eq (digit i) 15) (p ∷ made_of n (p + 1) (rest i)) (made_of n (p + 1) (rest i))

made_skip : (n p s : ℕ) → made_of (suc (suc n)) p (256 * s) ≡ made_of n (p + 2) s
made_skip n p s =
    let next : p + 1 + 1 ≡ p + 2 = omega arith in
    made_none (suc n) p (16 * s) (256 * s) (omega arith) ∙ made_none n (p + 1) s (16 * s) refl ∙ ap (λ q. made_of n q s) next

stay_hit : (n p : ℕ) (made : List ℕ) → list_any (nat_eq p) made ≡ true
    → stay_of (suc (suc n)) p made ≡ 15 + 16 * stay_of (suc n) (p + 1) made
stay_hit n p made e = ap (λ b. cond b (15 + 16 * stay_of (suc n) (p + 1) made) (256 * stay_of n (p + 2) made)) e

stay_skip : (n p : ℕ) (made : List ℕ) → list_any (nat_eq p) made ≡ false
    → stay_of (suc (suc n)) p made ≡ 256 * stay_of n (p + 2) made
stay_skip n p made e = ap (λ b. cond b (15 + 16 * stay_of (suc n) (p + 1) made) (256 * stay_of n (p + 2) made)) e

back : (n b p top : ℕ) (made : List ℕ) → p ≡ b + 1 → top + 1 ≡ p + n → IsChain top b made
    → made_of n p (stay_of n p made) ≡ made
back zero b p top [] at to h = refl
back zero b p top (x ∷ xs) at to h = absurd (omega (arith, h.0.0, chain_low top x xs h.1))
back (suc zero) b p top [] at to h = absurd (omega (arith, h.1))
back (suc zero) b p top (x ∷ xs) at to h =
    let here : p ≡ x = omega (arith, h.0.0, chain_low top x xs h.1) in
    let rest : [] ≡ xs = back zero x (p + 1) top xs (omega arith) (omega arith) h.1 in
    λ i. here i ∷ rest i
back (suc (suc n)) b p top [] at to h =
    ap (made_of (suc (suc n)) p) (stay_skip n p [] refl) ∙ made_skip n p (stay_of n (p + 2) [])
    ∙ back n (b + 2) (p + 2) top [] (omega arith) (omega arith) (omega (arith, h.0, h.1), omega (arith, h.0, h.1))
back (suc (suc n)) b p top (x ∷ xs) at to h = elim (cases_eq p x) [
  | inl here ↦
      ap (made_of (suc (suc n)) p) (stay_hit n p (x ∷ xs) (ap (λ b. b || list_any (nat_eq p) xs) (agree p x here)))
      ∙ made_hit (suc n) p (stay_of (suc n) (p + 1) (x ∷ xs))
      ∙ ap (λ s. p ∷ made_of (suc n) (p + 1) s) (stay_below (suc n) (p + 1) x xs (omega arith))
      ∙ (λ i. here i ∷ back (suc n) x (p + 1) top xs (omega arith) (omega arith) h.1 i)
  | inr other ↦
      let above : p + 2 ≤ x = omega (arith, h.0.0, h.0.1) in
      ap (made_of (suc (suc n)) p) (stay_skip n p (x ∷ xs) (skipped p x xs other ∙ none_from p x top xs (omega arith) h.1))
      ∙ made_skip n p (stay_of n (p + 2) (x ∷ xs))
      ∙ back n (b + 2) (p + 2) top (x ∷ xs) (omega arith) (omega arith) ((omega (arith, h.0.0, h.0.1), omega (arith, h.0.0, h.0.1)), h.1)
]

pub made_back : (stage : ℕ) (places : List ℕ) → IsChange (record { stage = stage; made = places })
    → made_of stage 1 (stay_of stage 1 places) ≡ places
made_back stage places change = back stage 0 1 stage places refl (omega arith) change

-- a place is made where its four bits are set
any_cond : (b : Bool) (p x : ℕ) (xs : List ℕ)
    → list_any (nat_eq p) (cond b (x ∷ xs) xs) ≡ (cond b (nat_eq p x) false || list_any (nat_eq p) xs)
any_cond true p x xs = refl
any_cond false p x xs = refl

other_place : (b : Bool) (p x : ℕ) → x ≢ p → cond b (nat_eq p x) false ≡ false
other_place true p x h = grind (arith, nat_tests)
other_place false p x h = refl

this_place : (b : Bool) (p x : ℕ) → p ≡ x → cond b (nat_eq p x) false ≡ b
this_place true p x h = grind (arith, nat_tests)
this_place false p x h = refl

or_false : (b c : Bool) → c ≡ false → (b || c) ≡ b
or_false true c h = refl
or_false false c h = h

false_or : (b c : Bool) → b ≡ false → (b || c) ≡ c
false_or b c h = ap (λ d. d || c) h

made_from : (n p stay q : ℕ) → q < p → list_any (nat_eq q) (made_of n p stay) ≡ false
made_from zero p stay q h = refl
made_from (suc n) p stay q h =
    let other : p ≢ q = omega arith in
    any_cond (nat_eq (stay % 16) 15) q p (made_of n (p + 1) (stay / 16))
    ∙ false_or _ _ (other_place (nat_eq (stay % 16) 15) q p other) ∙ made_from n (p + 1) (stay / 16) q (omega arith)

made_at : (n p stay k q : ℕ) → k < n → q ≡ p + k
    → list_any (nat_eq q) (made_of n p stay) ≡ nat_eq (stay / 2 ^ (4 * k) % 16) 15
made_at zero p stay k q h at = absurd (omega arith)
made_at (suc n) p stay zero q h at =
    let here : stay ≡ stay / 2 ^ (4 * 0) = omega arith in
    any_cond (nat_eq (stay % 16) 15) q p (made_of n (p + 1) (stay / 16))
    ∙ or_false _ _ (made_from n (p + 1) (stay / 16) q (omega arith))
    ∙ this_place (nat_eq (stay % 16) 15) q p (omega arith) ∙ ap (λ b. nat_eq (b % 16) 15) here
made_at (suc n) p stay (suc k) q h at =
    let other : p ≢ q = omega arith in
    let further : stay / 2 ^ 4 / 2 ^ (4 * k) ≡ stay / 2 ^ (4 + 4 * k) = shr-shr stay 4 (4 * k) in
    let place : 4 + 4 * k ≡ 4 * suc k = omega arith in
    any_cond (nat_eq (stay % 16) 15) q p (made_of n (p + 1) (stay / 16))
    ∙ false_or _ _ (other_place (nat_eq (stay % 16) 15) q p other)
    ∙ made_at n (p + 1) (stay / 16) k q (omega arith) (omega arith) ∙ ap (λ b. nat_eq (b % 16) 15) (further ∙ ap (λ j. stay / 2 ^ j) place)

-- and by `&` and `>>`
made_by_mask : (n stay p : ℕ) → 1 ≤ p → p ≤ n
    → nat_eq (bit_and (stay / 2 ^ (4 * (p - 1))) 15) 15 ≡ list_any (nat_eq p) (made_of n 1 stay)
made_by_mask n stay p low high =
    ap (λ b. nat_eq b 15) (and_mask (stay / 2 ^ (4 * (p - 1))) 4) ∙ sym (made_at n 1 stay (p - 1) p (omega arith) (omega arith))

pub made_read : (v : Places) (n stay p : ℕ) → Path Places (record { stage = n; made = made_of n 1 stay }) v → 1 ≤ p
    → p ≤ v.stage → nat_eq (bit_and (stay / 2 ^ (4 * (p - 1))) 15) 15 ≡ list_any (nat_eq p) v.made
made_read v n stay p e low =
    subst (λ (w : Places). p ≤ w.stage → nat_eq (bit_and (stay / 2 ^ (4 * (p - 1))) 15) 15 ≡ list_any (nat_eq p) w.made) e (made_by_mask n stay p low)

-- what a change's masks keep
pub masked : (stage stay first : ℕ) (places : List ℕ) → 3 ≤ stage → stage ≤ 16
    → IsChange (record { stage = stage; made = places }) → stay ≡ stay_of stage 1 places
    → first ≡ first_of stage 1 places → IsMasked stage stay first
masked stage stay first places low high change stays firsts =
    let same : made_of stage 1 stay ≡ places = ap (made_of stage 1) stays ∙ made_back stage places change in
    record {
      at_least = low;
      at_most = high;
      stays = ap (stay_of stage 1) same ∙ sym stays;
      firsts = ap (first_of stage 1) same ∙ sym firsts;
      is_change = subst (λ (l : List ℕ). IsChange (record { stage = stage; made = l })) (sym same) change;
    }

pub left_or_made : (place stage : ℕ) (test : Bool) → (place ≡ stage) ⊎ (test ≡ true)
    → (stage + 1 - (place + 1) ≡ 0) ⊎ (test ≡ true)
left_or_made place stage test (inl last) = inl (omega arith)
left_or_made place stage test (inr made) = inr made

-- one place more at the bottom
pub stays_more : (m n p q : ℕ) (made : List ℕ) → m ≡ suc n → q ≡ p + 1 → (n ≡ 0) ⊎ (list_any (nat_eq p) made ≡ true)
    → (stay_of m p made ≡ 16 * stay_of n q made + 15) × (first_of m p made ≡ 16 * first_of n q made)
stays_more m n p q made more next h = subst (λ (l : ℕ). (stay_of l p made ≡ 16 * stay_of n q made + 15) × (first_of l p made ≡ 16 * first_of n q made)) (sym more)
    (subst (λ (r : ℕ). (stay_of (suc n) p made ≡ 16 * stay_of n r made + 15) × (first_of (suc n) p made ≡ 16 * first_of n r made)) (sym next) (by n h))
  where
    by : (k : ℕ) → (k ≡ 0) ⊎ (list_any (nat_eq p) made ≡ true)
        → (stay_of (suc k) p made ≡ 16 * stay_of k (p + 1) made + 15) × (first_of (suc k) p made ≡ 16 * first_of k (p + 1) made)
    by zero h = (refl, refl)
    by (suc k) (inl e) = absurd (omega arith)
    by (suc k) (inr e) =
        let low = stay_hit k p made e in
        (omega arith, ap (λ b. cond b (16 * first_of (suc k) (p + 1) made) (15 + 256 * first_of k (p + 2) made)) e)

pub swaps_more : (m n p q : ℕ) (made : List ℕ) → m ≡ suc (suc n) → q ≡ p + 2 → list_any (nat_eq p) made ≡ false
    → (stay_of m p made ≡ 256 * stay_of n q made) × (first_of m p made ≡ 256 * first_of n q made + 15)
swaps_more m n p q made more next e = subst (λ (l : ℕ). (stay_of l p made ≡ 256 * stay_of n q made) × (first_of l p made ≡ 256 * first_of n q made + 15)) (sym more)
    (subst (λ (r : ℕ). (stay_of (suc (suc n)) p made ≡ 256 * stay_of n r made) × (first_of (suc (suc n)) p made ≡ 256 * first_of n r made + 15)) (sym next)
    (let low : first_of (suc (suc n)) p made ≡ 15 + 256 * first_of n (p + 2) made = ap (λ b. cond b (16 * first_of (suc n) (p + 1) made) (15 + 256 * first_of n (p + 2) made)) e in
    (stay_skip n p made e, omega arith)))
