-- Going over a range of numbers.
use Rattle.std.proofs.Common.{◌≡◌, ℕ, suc, ◌+◌, ◌-◌, ◌<◌, Bool, false, List, ◌∷◌, ◌++◌, ap, arith, append_assoc}
use Rattle.std.specs.Prelude.{flat_map}
use Rattle.std.specs.List.{find, range_with_len}

pub range_step : (i end : ℕ) → i < end → range_with_len i (end - i) ≡ i ∷ range_with_len (i + 1) (end - (i + 1))
range_step i end low = let e : end - i ≡ suc (end - (i + 1)) = omega arith in ap (range_with_len i) e

pub find_on : (test : ℕ → Bool) (i end : ℕ) → i < end → test i ≡ false → find test (range_with_len (i + 1) (end - (i + 1))) ≡ find test (range_with_len i (end - i))
find_on test i end low fails = rw (range_step i end low, fails)

pub flat_on : {A : Type 0} (f : ℕ → List A) (done : List A) (i end : ℕ) → i < end
    → (done ++ f i) ++ flat_map f (range_with_len (i + 1) (end - (i + 1))) ≡ done ++ flat_map f (range_with_len i (end - i))
flat_on f done i end low = rw (range_step i end low) (append_assoc done (f i) (flat_map f (range_with_len (i + 1) (end - (i + 1)))))
