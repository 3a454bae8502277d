-- Rounds on each stage, from those on sixteen bells.
use Rattle.std.proofs.Common.{◌≡◌, ℕ, ◌-◌, ◌*◌, ◌/◌, ◌^◌, ◌<◌, ◌≤◌, Bool, true, ◌&&◌, ltb, refl, arith, bit_and}
use Rattle.std.specs.Str.{bytes_eq}
use Rattle.std.proofs.lemmas.Bool.{agree_below_at, and_parts, ltb-true}
use Rattle.std.proofs.lemmas.Slice.Eq.{bytes_eq-Decides}
use Rattle.cr_row.specs.Rows.{rounds}
use Rattle.cr_row.specs.Packed.{bells_of, IsPacked}
use Rattle.cr_row.proofs.RowLaws.{IsRow-rounds}

-- the lowest n bells of rounds on sixteen, as the code computes them
abbrev pub masked_rounds : ℕ → ℕ
masked_rounds n = bit_and 18364758544493064720 (18446744073709551615 / 2 ^ (64 - 4 * n))

-- computed for each stage
is_rounds : ℕ → Bool
is_rounds n = bytes_eq (bells_of n (masked_rounds n)) (rounds n) && ltb (masked_rounds n) (16 ^ n)

all_rounds : (n : ℕ) → n < 17 → is_rounds n ≡ true
unfolding is_rounds
all_rounds n few = agree_below_at is_rounds (λ _. true) 17 n refl few

pub packed_rounds : (n : ℕ) → n ≤ 16 → (bells_of n (masked_rounds n) ≡ rounds n) × (masked_rounds n < 16 ^ n)
unfolding is_rounds
packed_rounds n few =
    let both = and_parts (bytes_eq (bells_of n (masked_rounds n)) (rounds n)) (ltb (masked_rounds n) (16 ^ n)) (all_rounds n (omega arith)) in
    ((bytes_eq-Decides (bells_of n (masked_rounds n)) (rounds n)).0 both.0, ltb-true (masked_rounds n) (16 ^ n) both.1)

pub IsPacked-rounds : (n : ℕ) → 3 ≤ n → n ≤ 16 → IsPacked n (masked_rounds n)
IsPacked-rounds n low few =
    let is = packed_rounds n few in
    record { at_least = low; at_most = few; fits = is.1; row = rw is.0 (IsRow-rounds n) }
