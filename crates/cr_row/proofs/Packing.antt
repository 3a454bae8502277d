-- What the packing loops keep.
use Rattle.std.proofs.Common.{◌≡◌, ℕ, suc, ◌+◌, ◌-◌, ◌*◌, ◌/◌, ◌%◌, ◌^◌, ◌<◌, ◌≤◌, List, [], ◌∷◌, length, get_or, drop, refl, ap, sym, ◌∙◌, subst, arith}
use Rattle.std.proofs.Math.Nat.{pow-le-pow_right}
use Rattle.std.proofs.lemmas.List.{drop_more, drop_all}
use Rattle.cr_row.specs.Rows.{IsRow, product}
use Rattle.cr_row.specs.Packed.{bells_of, key_of, bells_length, bell_read, AreBells}
use Rattle.cr_row.proofs.RowLaws.{length-product, get_or-product, IsRow-product, AreBells-row}

-- the bells from place `left` on are packed
pub record Kept (whole : List ℕ) (left bits : ℕ) : Type 0 where
  pub within : left ≤ length whole
  pub bells : bells_of (length whole - left) bits ≡ drop left whole
  pub fits : bits < 16 ^ (length whole - left)

-- one more bell below the others
bells_of_more : (n bits b : ℕ) → 0 < b → b ≤ 16 → bells_of (suc n) (16 * bits + (b - 1)) ≡ b ∷ bells_of n bits
bells_of_more n bits b low high =
    let digit : (16 * bits + (b - 1)) % 16 + 1 ≡ b = omega arith in
    let rest : (16 * bits + (b - 1)) / 16 ≡ bits = omega arith in
    λ i. digit i ∷ bells_of n (rest i)

-- there is room for one more bell
pub more_room : (k bits d : ℕ) → bits < 16 ^ k → k < 16 → d < 16 → 16 * bits + d < 2 ^ 64
more_room k bits d fits below digit =
    let most : 16 ^ k ≤ 16 ^ 15 = pow-le-pow_right {n = 16} (omega arith) {i = k} {j = 15} (omega arith) in
    omega arith

pub Kept-more : (whole : List ℕ) (left bits : ℕ) → AreBells whole → 0 < left → Kept whole left bits
    → Kept whole (left - 1) (16 * bits + (get_or whole (left - 1) 0 - 1))
Kept-more whole left bits bells some kept =
    let n = length whole - left in
    let within : left ≤ length whole = kept.within in
    let below : left - 1 < length whole = omega arith in
    let bell = bells (left - 1) below in
    let more : length whole - (left - 1) ≡ suc (length whole - left) = omega arith in
    let at : left - 1 + 1 ≡ left = omega arith in
    record {
      within = omega arith;
      bells = ap (λ k. bells_of k (16 * bits + (get_or whole (left - 1) 0 - 1))) more
          ∙ bells_of_more (length whole - left) bits (get_or whole (left - 1) 0) bell.0 bell.1
          ∙ ap (λ rest. get_or whole (left - 1) 0 ∷ rest) (kept.bells ∙ ap (λ k. drop k whole) (sym at))
          ∙ sym (drop_more whole (left - 1) 0 below);
      fits = rw more (omega (arith, kept.fits, bell.1));
    }

pub Kept-none : (whole : List ℕ) (n : ℕ) → length whole ≡ n → Kept whole n 0
Kept-none whole n long =
    let none : length whole - n ≡ 0 = omega arith in
    record {
      within = omega arith;
      bells = ap (λ k. bells_of k 0) none ∙ sym (drop_all n whole (omega arith));
      fits = rw none (omega arith);
    }

-- the product is packed from the last place down
pub record Composed (n first second left bits : ℕ) : Type 0 where
  pub within : left ≤ n
  pub kept : Kept (product (bells_of n first) (bells_of n second)) left bits

length_composed : (n first second : ℕ) → length (product (bells_of n first) (bells_of n second)) ≡ n
length_composed n first second = length-product (bells_of n first) (bells_of n second) ∙ bells_length n second

pub Composed-none : (n first second : ℕ) → Composed n first second n 0
Composed-none n first second = record {
  within = omega arith;
  kept = Kept-none (product (bells_of n first) (bells_of n second)) n (length_composed n first second);
}

composed_bell : (n first second i a b : ℕ) → IsRow (bells_of n second) → i < n → a ≡ second / 2 ^ (4 * i) % 16
    → b ≡ first / 2 ^ (4 * a) % 16 → get_or (product (bells_of n first) (bells_of n second)) i 0 - 1 ≡ b
composed_bell n first second i a b row inside at is =
    let long = bells_length n second in
    let bell = row.in_range i (omega arith) in
    let read : get_or (bells_of n second) i 0 ≡ second / 2 ^ (4 * i) % 16 + 1 = bell_read n second i 0 inside in
    let place : get_or (bells_of n second) i 0 - 1 ≡ a = omega arith in
    let found : get_or (bells_of n first) a 0 ≡ first / 2 ^ (4 * a) % 16 + 1 = bell_read n first a 0 (omega arith) in
    let whole : get_or (product (bells_of n first) (bells_of n second)) i 0 ≡ get_or (bells_of n first) a 0 = get_or-product (bells_of n first) (bells_of n second) i (omega arith) ∙ ap (λ k. get_or (bells_of n first) k 0) place in
    omega arith

pub Composed-more : (n first second left bits a b : ℕ) → n ≤ 16 → IsRow (bells_of n first)
    → IsRow (bells_of n second) → 0 < left → a ≡ second / 2 ^ (4 * (left - 1)) % 16 → b ≡ first / 2 ^ (4 * a) % 16
    → Composed n first second left bits → Composed n first second (left - 1) (16 * bits + b)
Composed-more n first second left bits a b few one two some at is so_far =
    let long = length_composed n first second in
    let row : IsRow (product (bells_of n first) (bells_of n second)) = IsRow-product (bells_of n first) (bells_of n second) one two (bells_length n first ∙ sym (bells_length n second)) in
    let bells : AreBells (product (bells_of n first) (bells_of n second)) = AreBells-row (product (bells_of n first) (bells_of n second)) row (omega arith) in
    let digit : get_or (product (bells_of n first) (bells_of n second)) (left - 1) 0 - 1 ≡ b = composed_bell n first second (left - 1) a b two (omega (arith, so_far.within)) at is in
    record {
      within = omega (arith, so_far.within);
      kept = subst (λ (d : ℕ). Kept (product (bells_of n first) (bells_of n second)) (left - 1) (16 * bits + d)) digit
          (Kept-more (product (bells_of n first) (bells_of n second)) left bits bells some so_far.kept);
    }

pub Composed-room : (n first second left bits d : ℕ) → n ≤ 16 → 0 < left → d < 16
    → Composed n first second left bits → 16 * bits + d < 2 ^ 64
Composed-room n first second left bits d few some small so_far =
    let long = length_composed n first second in
    more_room (length (product (bells_of n first) (bells_of n second)) - left) bits d so_far.kept.fits (omega arith) small

pub Composed-all : (n first second left bits : ℕ) → left ≡ 0 → Composed n first second left bits
    → (bells_of n bits ≡ product (bells_of n first) (bells_of n second)) × (bits < 16 ^ n)
Composed-all n first second left bits none so_far =
    let long = length_composed n first second in
    let all : length (product (bells_of n first) (bells_of n second)) - left ≡ n = omega arith in (
      ap (λ k. bells_of k bits) (sym all) ∙ so_far.kept.bells ∙ ap (λ k. drop k (product (bells_of n first) (bells_of n second))) none,
      subst (λ (k : ℕ). bits < 16 ^ k) all so_far.kept.fits,
    )

-- the key gives the bells back
key_back : (bells : List ℕ) → AreBells bells → bells_of (length bells) (key_of bells) ≡ bells
key_back [] are = refl
key_back (b ∷ bells) are =
    let first = are 0 (omega arith) in
    let whole : b - 1 + 16 * key_of bells ≡ 16 * key_of bells + (b - 1) = omega arith in
    ap (bells_of (suc (length bells))) whole ∙ bells_of_more (length bells) (key_of bells) b first.0 first.1 ∙ ap (λ l. b ∷ l) (key_back bells (λ i h. are (suc i) (omega arith)))

pub same_key : (r s : List ℕ) → IsRow r → IsRow s → length r ≤ 16 → length r ≡ length s → key_of r ≡ key_of s → r ≡ s
same_key r s one two few long e =
    sym (key_back r (AreBells-row r one few)) ∙ (λ i. bells_of (long i) (e i)) ∙ key_back s (AreBells-row s two (omega arith))
