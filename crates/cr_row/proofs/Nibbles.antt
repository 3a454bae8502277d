-- A change of packed bells, four bits at a time.
use Rattle.std.proofs.Common.{◌≡◌, ℕ, zero, suc, ◌+◌, ◌*◌, ◌/◌, ◌%◌, ◌^◌, ◌<◌, ◌≤◌, Bool, true, false, cond, List, [], ◌∷◌, nat_eq, refl, ap, ◌∙◌, subst, arith, bit_and}
use Rattle.std.specs.List.{list_any}
use Rattle.std.proofs.Math.Nat.{pow-le-pow_right}
use Rattle.std.proofs.lemmas.Nat.{and_block, and_mask, and_le_r}
use Rattle.cr_row.specs.Rows.{Places, changed}
use Rattle.cr_row.specs.Packed.{bells_of}
use Rattle.cr_row.specs.Masks.{stay_of, first_of, made_of, IsMasked}

-- the lowest four bits apart
and_split : (a q r : ℕ) → r < 16 → bit_and a (16 * q + r) ≡ 16 * bit_and (a / 16) q + bit_and (a % 16) r
and_split a q r small =
    let one : a ≡ a / 16 * 2 ^ 4 + a % 16 = omega arith in
    let two : 16 * q + r ≡ q * 2 ^ 4 + r = omega arith in
    let both : bit_and (a / 16 * 2 ^ 4 + a % 16) (q * 2 ^ 4 + r) ≡ bit_and (a / 16) q * 2 ^ 4 + bit_and (a % 16) r = and_block 4 (a / 16) q (a % 16) r (omega arith) (omega arith) in
    (λ i. bit_and (one i) (two i)) ∙ both ∙ omega arith

and_all : (a q m : ℕ) → m ≡ 16 * q + 15 → bit_and a m ≡ 16 * bit_and (a / 16) q + a % 16
and_all a q m e =
    let low : bit_and (a % 16) 15 ≡ a % 16 % 16 = and_mask (a % 16) 4 in
    ap (bit_and a) e ∙ and_split a q 15 (omega arith) ∙ omega arith

and_none : (a q m : ℕ) → m ≡ 16 * q → bit_and a m ≡ 16 * bit_and (a / 16) q
and_none a q m e =
    let low : bit_and (a % 16) 0 ≤ 0 = and_le_r (a % 16) 0 in
    let whole : m ≡ 16 * q + 0 = omega arith in
    ap (bit_and a) whole ∙ and_split a q 0 (omega arith) ∙ omega arith

-- the bells that stay, the first of each pair a place up, and the second a place down
abbrev pub moved : ℕ → ℕ → ℕ → ℕ
moved bits stay first = bit_and bits stay + bit_and bits first * 16 + bit_and (bits / 16) first

moved_stays : (bits s f : ℕ) → moved bits (15 + 16 * s) (16 * f) ≡ bits % 16 + 16 * moved (bits / 16) s f
moved_stays bits s f =
    omega (arith, and_all bits s (15 + 16 * s) (omega arith), and_none bits f (16 * f) refl, and_none (bits / 16) f (16 * f) refl)

moved_swaps : (bits s f : ℕ)
    → moved bits (256 * s) (15 + 256 * f) ≡ bits / 16 % 16 + 16 * (bits % 16 + 16 * moved (bits / 16 / 16) s f)
moved_swaps bits s f =
    omega (
      arith,
      and_none bits (16 * s) (256 * s) (omega arith),
      and_none (bits / 16) s (16 * s) refl,
      and_all bits (16 * f) (15 + 256 * f) (omega arith),
      and_none (bits / 16) f (16 * f) refl,
      and_all (bits / 16) (16 * f) (15 + 256 * f) (omega arith),
      and_none (bits / 16 / 16) f (16 * f) refl,
    )

-- one bell below the others
pub bells_more : (n bits b : ℕ) → b < 16 → bells_of (suc n) (b + 16 * bits) ≡ (b + 1) ∷ bells_of n bits
bells_more n bits b small =
    let digit : (b + 16 * bits) % 16 + 1 ≡ b + 1 = omega arith in
    let rest : (b + 16 * bits) / 16 ≡ bits = omega arith in
    λ i. digit i ∷ bells_of n (rest i)

last_stays : (bits : ℕ) → moved bits 15 0 % 16 + 1 ≡ bits % 16 + 1
last_stays bits =
    let low : bit_and bits 15 ≡ bits % 16 = and_mask bits 4 in
    omega (arith, and_le_r bits 0, and_le_r (bits / 16) 0)

-- the packed bells are those after the change
pub moved_bells : (n p : ℕ) (made : List ℕ) (bits : ℕ)
    → bells_of n (moved bits (stay_of n p made) (first_of n p made)) ≡ changed made p (bells_of n bits)
moved_bells zero p made bits = refl
moved_bells (suc zero) p made bits = ap (λ b. b ∷ []) (last_stays bits)
moved_bells (suc (suc n)) p made bits =
    by (list_any (nat_eq p) made) (moved_bells (suc n) (p + 1) made (bits / 16)) (moved_bells n (p + 2) made (bits / 16 / 16))
  where
    by : (b : Bool)
        → bells_of (suc n) (moved (bits / 16) (stay_of (suc n) (p + 1) made) (first_of (suc n) (p + 1) made)) ≡ changed made (p + 1) (bells_of (suc n) (bits / 16))
        → bells_of n (moved (bits / 16 / 16) (stay_of n (p + 2) made) (first_of n (p + 2) made)) ≡ changed made (p + 2) (bells_of n (bits / 16 / 16))
        → bells_of (suc (suc n)) (moved bits (cond b (15 + 16 * stay_of (suc n) (p + 1) made) (256 * stay_of n (p + 2) made)) (cond b (16 * first_of (suc n) (p + 1) made) (15 + 256 * first_of n (p + 2) made)))
        ≡ cond b ((bits % 16 + 1) ∷ changed made (p + 1) (bells_of (suc n) (bits / 16))) ((bits / 16 % 16 + 1) ∷ (bits % 16 + 1) ∷ changed made (p + 2) (bells_of n (bits / 16 / 16)))
    by true stays swaps =
        ap (bells_of (suc (suc n))) (moved_stays bits (stay_of (suc n) (p + 1) made) (first_of (suc n) (p + 1) made))
        ∙ bells_more (suc n) (moved (bits / 16) (stay_of (suc n) (p + 1) made) (first_of (suc n) (p + 1) made)) (bits % 16) (omega arith)
        ∙ ap (λ l. (bits % 16 + 1) ∷ l) stays
    by false stays swaps =
        ap (bells_of (suc (suc n))) (moved_swaps bits (stay_of n (p + 2) made) (first_of n (p + 2) made))
        ∙ bells_more (suc n) (bits % 16 + 16 * moved (bits / 16 / 16) (stay_of n (p + 2) made) (first_of n (p + 2) made)) (bits / 16 % 16) (omega arith)
        ∙ ap (λ l. (bits / 16 % 16 + 1) ∷ l) (bells_more n (moved (bits / 16 / 16) (stay_of n (p + 2) made) (first_of n (p + 2) made)) (bits % 16) (omega arith))
        ∙ ap (λ l. (bits / 16 % 16 + 1) ∷ (bits % 16 + 1) ∷ l) swaps

-- each place stays, begins a pair, or ends one
pub masks_fill : (n p : ℕ) (made : List ℕ) → stay_of n p made + 17 * first_of n p made + 1 ≡ 16 ^ n
masks_fill zero p made = refl
masks_fill (suc zero) p made = refl
masks_fill (suc (suc n)) p made = by (list_any (nat_eq p) made) (masks_fill (suc n) (p + 1) made) (masks_fill n (p + 2) made)
  where
    by : (b : Bool) → stay_of (suc n) (p + 1) made + 17 * first_of (suc n) (p + 1) made + 1 ≡ 16 ^ suc n
        → stay_of n (p + 2) made + 17 * first_of n (p + 2) made + 1 ≡ 16 ^ n
        → cond b (15 + 16 * stay_of (suc n) (p + 1) made) (256 * stay_of n (p + 2) made) + 17 * cond b (16 * first_of (suc n) (p + 1) made) (15 + 256 * first_of n (p + 2) made) + 1 ≡ 16 ^ suc (suc n)
    by true one two = omega arith
    by false one two = omega arith

pub at_most_16 : (n : ℕ) → n ≤ 16 → 16 ^ n ≤ 18446744073709551616
at_most_16 n few = pow-le-pow_right {n = 16} (omega arith) {i = n} {j = 16} few

pub moved_fits : (n p : ℕ) (made : List ℕ) (bits : ℕ) → moved bits (stay_of n p made) (first_of n p made) < 16 ^ n
moved_fits n p made bits =
    omega (arith, masks_fill n p made, and_le_r bits (stay_of n p made), and_le_r bits (first_of n p made), and_le_r (bits / 16) (first_of n p made))

-- what the code computes
abbrev pub coded : ℕ → ℕ → ℕ → ℕ
coded bits stay first = bit_and bits stay + bit_and bits first * 16 % 18446744073709551616 + bit_and (bits / 16) first

pub coded_is : (n p : ℕ) (made : List ℕ) (bits : ℕ) → n ≤ 16
    → coded bits (stay_of n p made) (first_of n p made) ≡ moved bits (stay_of n p made) (first_of n p made)
coded_is n p made bits few =
    omega (arith, masks_fill n p made, at_most_16 n few, and_le_r bits (first_of n p made))

-- of a change's own masks
pub record IsMoved (v : Places) (bits stay first : ℕ) : Type 0 where
  pub bells : bells_of v.stage (coded bits stay first) ≡ changed v.made 1 (bells_of v.stage bits)
  pub fits : coded bits stay first < 16 ^ v.stage
  pub room : coded bits stay first < 18446744073709551616

moved_masks : (n bits : ℕ) (made : List ℕ) → n ≤ 16
    → IsMoved (record { stage = n; made = made }) bits (stay_of n 1 made) (first_of n 1 made)
moved_masks n bits made few =
    let same : coded bits (stay_of n 1 made) (first_of n 1 made) ≡ moved bits (stay_of n 1 made) (first_of n 1 made) = coded_is n 1 made bits few in
    let fits : moved bits (stay_of n 1 made) (first_of n 1 made) < 16 ^ n = moved_fits n 1 made bits in
    let most : 16 ^ n ≤ 18446744073709551616 = at_most_16 n few in
    record {
      bells = ap (bells_of n) same ∙ moved_bells n 1 made bits;
      fits = omega arith;
      room = omega arith;
    }

pub moved_right : (v : Places) (n stay first bits : ℕ) → IsMasked n stay first
    → Path Places (record { stage = n; made = made_of n 1 stay }) v → IsMoved v bits stay first
moved_right v n stay first bits masked e =
    subst (λ (w : Places). IsMoved w bits stay first) e
    (subst (λ (f : ℕ). IsMoved (record { stage = n; made = made_of n 1 stay }) bits stay f) masked.firsts
    (subst (λ (s : ℕ). IsMoved (record { stage = n; made = made_of n 1 stay }) bits s (first_of n 1 (made_of n 1 stay))) masked.stays
    (moved_masks n bits (made_of n 1 stay) masked.at_most)))

-- the masks fit
pub masks_room : (n p : ℕ) (made : List ℕ) → n ≤ 16 → (stay_of n p made < 2 ^ 64) × (first_of n p made < 2 ^ 64)
masks_room n p made few = (omega (arith, masks_fill n p made, at_most_16 n few), omega (arith, masks_fill n p made, at_most_16 n few))
