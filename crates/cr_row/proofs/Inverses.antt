-- The table that has the place of each bell is the inverse row.
use Rattle.std.proofs.Common.{◌≡◌, ℕ, zero, suc, ◌∷◌, ◌*◌, ◌/◌, ◌%◌, ◌^◌, refl, ◌+◌, ◌-◌, ◌<◌, ◌≤◌, ◌≢◌, List, length, get_or, set, ap, sym, ◌∙◌, subst, arith, below_more}
use Rattle.std.proofs.lemmas.Nat.{pow-add, shr_le}
use Rattle.std.proofs.lemmas.List.{get_or-set_other, get_or-set_same, ext_get_or}
use Rattle.cr_row.specs.Rows.{IsRow, IsInverse}
use Rattle.cr_row.specs.Packed.{bells_of, bells_length, bell_read, Undone}
use Rattle.cr_row.proofs.Nibbles.{at_most_16}
use Rattle.cr_row.proofs.RowLaws.{length-rounds, get_or-rounds, length-product, get_or-product}

pub inverse_more : (row bells : List ℕ) (i j x : ℕ) → IsRow row → i < length row → length row ≤ length bells
    → j ≡ get_or row i 0 - 1 → x ≡ i + 1 → ((k : ℕ) → k < i → get_or bells (get_or row k 0 - 1) 0 ≡ k + 1) → (k : ℕ)
    → k < i + 1 → get_or (set bells j x) (get_or row k 0 - 1) 0 ≡ k + 1
inverse_more row bells i j x p in' room at is each = below_more _ _
    (λ k below.
    let mine = p.in_range i in' in
    let its = p.in_range k (omega arith) in
    let other : get_or row k 0 - 1 ≢ j = λ e. (let same : k ≡ i = p.apart k i (omega arith) in' (omega arith) in omega arith) in
    get_or-set_other bells j (get_or row k 0 - 1) x 0 other ∙ each k below)
    (let mine = p.in_range i in' in
    let place : j < length bells = omega arith in
    ap (λ b. get_or (set bells j x) b 0) (sym at) ∙ get_or-set_same bells j x 0 place ∙ is)

pub inverse_row : (h table : List ℕ) → IsRow h → length table ≡ length h
    → ((k : ℕ) → k < length h → get_or table (get_or h k 0 - 1) 0 ≡ k + 1) → Undone h table
inverse_row h table p long each =
    let at : (i : ℕ) → i < length h → (k : ℕ) × (k < length h) × (get_or h k 0 ≡ i + 1) × (get_or table i 0 ≡ k + 1) =
    λ i in'. (let (k, within, bell) = p.reached (i + 1) (omega arith) (omega arith) in
    let entry : get_or table (i + 1 - 1) 0 ≡ k + 1 = ap (λ b. get_or table (b - 1) 0) (sym bell) ∙ each k within in
    let here : i ≡ i + 1 - 1 = omega arith in
    (k, within, bell, ap (λ b. get_or table b 0) here ∙ entry)) in
    record {
      row = record {
        in_range = λ i in'. (let (k, within, bell, entry) = at i (omega arith) in (omega arith, omega arith));
        apart = λ i j in' on e. (
            let (k, within, bell, entry) = at i (omega arith) in
            let (l, too, other, other_entry) = at j (omega arith) in
            let same : k ≡ l = omega arith in
            let bells : get_or h k 0 ≡ get_or h l 0 = ap (λ b. get_or h b 0) same in
            omega arith);
        reached = λ b low high. (
            let here = p.in_range (b - 1) (omega arith) in
            let entry = each (b - 1) (omega arith) in
            (get_or h (b - 1) 0 - 1, omega arith, omega arith));
      };
      is = record {
        right = ext_get_or 0 _ _ (length-product h table ∙ long ∙ sym (length-rounds (length h))) (λ i in'. (
            let inside : i < length table = omega (arith, length-product h table) in
            let (k, within, bell, entry) = at i (omega arith) in
            let place : get_or table i 0 - 1 ≡ k = omega arith in
            let bells : get_or h (get_or table i 0 - 1) 0 ≡ get_or h k 0 = ap (λ b. get_or h b 0) place in
            omega (arith, get_or-product h table i inside, get_or-rounds (length h) i (omega arith))));
        left = ext_get_or 0 _ _ (length-product table h ∙ sym (length-rounds (length h))) (λ i in'. (
            let inside : i < length h = omega (arith, length-product table h) in
            omega (arith, get_or-product table h i inside, each i inside, get_or-rounds (length h) i inside)));
      };
    }

place_more : (x j : ℕ) → x * 2 ^ (4 * suc j) ≡ 16 * (x * 2 ^ (4 * j))
place_more x j =
    let place : 4 * suc j ≡ 4 + 4 * j = omega arith in
    let power : 2 ^ (4 * suc j) ≡ 2 ^ 4 * 2 ^ (4 * j) = ap (λ k. 2 ^ k) place ∙ pow-add 2 4 (4 * j) in
    ap (λ q. x * q) power ∙ omega arith

zero_bits : (k : ℕ) → 0 / 2 ^ k % 16 + 1 ≡ 1
zero_bits k = let none : 0 / 2 ^ k ≤ 0 = shr_le 0 k in omega arith

pow-pos : (n : ℕ) → 0 < 16 ^ n
pow-pos zero = omega arith
pow-pos (suc n) = omega (arith, pow-pos n)

-- four bits of a packed row are set, where they were not
bits_set : (n bits j x : ℕ) → j < n → x < 16 → get_or (bells_of n bits) j 0 ≡ 1
    → bells_of n (bits + x * 2 ^ (4 * j)) ≡ set (bells_of n bits) j (x + 1)
bits_set zero bits j x in' small free = absurd (omega arith)
bits_set (suc n) bits zero x in' small free =
    let digit : (bits + x * 2 ^ (4 * 0)) % 16 + 1 ≡ x + 1 = omega arith in
    let rest : (bits + x * 2 ^ (4 * 0)) / 16 ≡ bits / 16 = omega arith in
    λ i. digit i ∷ bells_of n (rest i)
bits_set (suc n) bits (suc j) x in' small free =
    let more : x * 2 ^ (4 * suc j) ≡ 16 * (x * 2 ^ (4 * j)) = place_more x j in
    let digit : (bits + x * 2 ^ (4 * suc j)) % 16 + 1 ≡ bits % 16 + 1 = omega arith in
    let rest : (bits + x * 2 ^ (4 * suc j)) / 16 ≡ bits / 16 + x * 2 ^ (4 * j) = omega arith in
    (λ i. digit i ∷ bells_of n (rest i)) ∙ ap (λ l. (bits % 16 + 1) ∷ l) (bits_set n (bits / 16) j x (omega arith) small free)

bits_fit : (n bits j x : ℕ) → j < n → x < 16 → bits < 16 ^ n → get_or (bells_of n bits) j 0 ≡ 1
    → bits + x * 2 ^ (4 * j) < 16 ^ n
bits_fit zero bits j x in' small fits free = absurd (omega arith)
bits_fit (suc n) bits zero x in' small fits free = omega arith
bits_fit (suc n) bits (suc j) x in' small fits free =
    let more : x * 2 ^ (4 * suc j) ≡ 16 * (x * 2 ^ (4 * j)) = place_more x j in
    let rest : bits / 16 + x * 2 ^ (4 * j) < 16 ^ n = bits_fit n (bits / 16) j x (omega arith) small (omega arith) free in
    omega arith

-- the places of the first bells of h are in the packed table, and it is free at the others
pub record Turned (h : List ℕ) (n table place : ℕ) : Type 0 where
  pub fits : table < 16 ^ n
  pub each : (k : ℕ) → k < place → get_or (bells_of n table) (get_or h k 0 - 1) 0 ≡ k + 1
  pub free : (k : ℕ) → place ≤ k → k < length h → get_or (bells_of n table) (get_or h k 0 - 1) 0 ≡ 1

pub Turned-none : (h : List ℕ) (n : ℕ) → IsRow h → length h ≡ n → Turned h n 0 0
Turned-none h n row long = record {
  fits = pow-pos n;
  each = λ k h'. absurd (omega arith);
  free = λ k low in'. (let bell = row.in_range k in' in bell_read n 0 (get_or h k 0 - 1) 0 (omega arith) ∙ zero_bits (4 * (get_or h k 0 - 1)));
}

pub Turned-more : (h : List ℕ) (n table place j : ℕ) → IsRow h → length h ≡ n → n ≤ 16 → place < n
    → j ≡ get_or h place 0 - 1 → Turned h n table place → Turned h n (table + place * 2 ^ (4 * j)) (place + 1)
Turned-more h n table place j row long few in' at turned =
    let bell = row.in_range place (omega arith) in
    let inside : j < n = omega arith in
    let was : get_or (bells_of n table) j 0 ≡ 1 = ap (λ k. get_or (bells_of n table) k 0) at ∙ turned.free place (omega arith) (omega arith) in
    let now : bells_of n (table + place * 2 ^ (4 * j)) ≡ set (bells_of n table) j (place + 1) = bits_set n table j place inside (omega arith) was in
    record {
      fits = bits_fit n table j place inside (omega arith) turned.fits was;
      each = rw now (inverse_more h (bells_of n table) place j (place + 1) row (omega arith) (omega (arith, bells_length n table)) at refl turned.each);
      free = rw now (λ k low within.
          let its = row.in_range k within in
          let other : get_or h k 0 - 1 ≢ j = λ e. (let same : k ≡ place = row.apart k place within (omega arith) (omega arith) in omega arith) in
          get_or-set_other (bells_of n table) j (get_or h k 0 - 1) (place + 1) 0 other ∙ turned.free k (omega arith) within);
    }

pub Turned-all : (h : List ℕ) (n table place : ℕ) → IsRow h → length h ≡ n → place ≡ n → Turned h n table place
    → Undone h (bells_of n table)
Turned-all h n table place row long all turned =
    inverse_row h (bells_of n table) row (bells_length n table ∙ sym long) (λ k in'. turned.each k (omega arith))

-- one bell more, as the code computes it
pub Turned-shifted : (n bits table place x j : ℕ) → n ≤ 16 → IsRow (bells_of n bits) → place < n → x ≡ place
    → j ≡ bits / 2 ^ (4 * place) % 16 → Turned (bells_of n bits) n table place
    → Turned (bells_of n bits) n (table + x * 2 ^ (4 * j) % 18446744073709551616) (place + 1)
Turned-shifted n bits table place x j few row in' is at turned =
    let read : get_or (bells_of n bits) place 0 ≡ bits / 2 ^ (4 * place) % 16 + 1 = bell_read n bits place 0 in' in
    let next : Turned (bells_of n bits) n (table + place * 2 ^ (4 * j)) (place + 1) = Turned-more (bells_of n bits) n table place j row (bells_length n bits) few in' (omega arith) turned in
    let same : x * 2 ^ (4 * j) ≡ place * 2 ^ (4 * j) = ap (λ y. y * 2 ^ (4 * j)) is in
    let whole : table + place * 2 ^ (4 * j) ≡ table + x * 2 ^ (4 * j) % 18446744073709551616 = omega (arith, next.fits, at_most_16 n few) in
    subst (λ (t : ℕ). Turned (bells_of n bits) n t (place + 1)) whole next

-- a row undone on both sides
length_inverse : (h r : List ℕ) → IsInverse h r → length r ≡ length h
length_inverse h r undone = sym (length-product h r) ∙ ap length undone.right ∙ length-rounds (length h)

inverse_place : (h r : List ℕ) (k : ℕ) → IsInverse h r → k < length h → get_or r (get_or h k 0 - 1) 0 ≡ k + 1
inverse_place h r k undone in' =
    omega (arith, get_or-product r h k in', ap (λ l. get_or l k 0) undone.left, get_or-rounds (length h) k in')

pub IsRow-inverse : (h r : List ℕ) → IsRow h → IsInverse h r → IsRow r
IsRow-inverse h r row undone = (inverse_row h r row (length_inverse h r undone) (λ k in'. inverse_place h r k undone in')).row

pub inverse_one : (h r s : List ℕ) → IsRow h → IsInverse h r → IsInverse h s → r ≡ s
inverse_one h r s row one two =
    let long = length_inverse h r one in
    ext_get_or 0 r s (long ∙ sym (length_inverse h s two)) (λ i in'.
    let (k, within, bell) = row.reached (i + 1) (omega arith) (omega arith) in
    let here : get_or h k 0 - 1 ≡ i = omega arith in
    ap (λ p. get_or r p 0) (sym here) ∙ inverse_place h r k one within ∙ sym (inverse_place h s k two within) ∙ ap (λ p. get_or s p 0) here)
