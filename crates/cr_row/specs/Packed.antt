-- How a row stands in one number: four bits a bell, the first place lowest, each one less than its bell.
use Rattle.std.specs.Prelude.{◌≡◌, ℕ, zero, suc, ◌+◌, ◌-◌, ◌*◌, ◌/◌, ◌%◌, ◌^◌, ◌<◌, ◌≤◌, List, [], ◌∷◌, length, get_or, refl}
use Rattle.std.proofs.Common.{ap, sym, ◌∙◌, arith}
use Rattle.std.proofs.lemmas.Nat.{shr-shr}
use Rattle.cr_row.specs.Rows.{IsRow, IsInverse}

-- the bells of n places
abbrev pub bells_of : ℕ → ℕ → List ℕ
bells_of zero bits = []
bells_of (suc n) bits = (bits % 16 + 1) ∷ bells_of n (bits / 16)

-- the number that bells are packed in
abbrev pub key_of : List ℕ → ℕ
key_of [] = 0
key_of (b ∷ bs) = (b - 1) + 16 * key_of bs

-- what the two fields of a row keep
pub record IsPacked (stage bits : ℕ) : Type 0 where
  pub at_least : 3 ≤ stage
  pub at_most : stage ≤ 16
  pub fits : bits < 16 ^ stage
  pub row : IsRow (bells_of stage bits)

pub bells_length : (n bits : ℕ) → length (bells_of n bits) ≡ n
bells_length zero bits = refl
bells_length (suc n) bits = ap suc (bells_length n (bits / 16))

pub packed_back : (n bits : ℕ) → bits < 16 ^ n → key_of (bells_of n bits) ≡ bits
packed_back zero bits h = omega arith
packed_back (suc n) bits h =
    let rest : key_of (bells_of n (bits / 16)) ≡ bits / 16 = packed_back n (bits / 16) (omega arith) in
    omega arith

-- the bell at a place is read from its four bits
pub bell_read : (n bits i d : ℕ) → i < n → get_or (bells_of n bits) i d ≡ bits / 2 ^ (4 * i) % 16 + 1
bell_read zero bits i d h = absurd (omega arith)
bell_read (suc n) bits zero d h = omega arith
bell_read (suc n) bits (suc i) d h =
    let rest : get_or (bells_of n (bits / 16)) i d ≡ bits / 16 / 2 ^ (4 * i) % 16 + 1 =
    bell_read n (bits / 16) i d (omega arith) in
    let further : bits / 2 ^ 4 / 2 ^ (4 * i) ≡ bits / 2 ^ (4 + 4 * i) = shr-shr bits 4 (4 * i) in
    let place : 4 + 4 * i ≡ 4 * suc i = omega arith in
    rest ∙ ap (λ q. q % 16 + 1) (further ∙ ap (λ k. bits / 2 ^ k) place)

-- a row that undoes another
pub record Undone (h r : List ℕ) : Type 0 where
  pub row : IsRow r
  pub is : IsInverse h r

-- four bits are a bell
abbrev pub AreBells : List ℕ → Type 0
AreBells bells = (i : ℕ) → i < length bells → (0 < get_or bells i 0) × (get_or bells i 0 ≤ 16)

-- rows that are one are packed in one way
pub same_bits : (n m a b : ℕ) → a < 16 ^ n → b < 16 ^ m → bells_of n a ≡ bells_of m b → (a ≡ b) × (n ≡ m)
same_bits n m a b h g e =
    (sym (packed_back n a h) ∙ ap key_of e ∙ packed_back m b g, sym (bells_length n a) ∙ ap length e ∙ bells_length m b)
