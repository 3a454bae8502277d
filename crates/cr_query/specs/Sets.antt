-- Sets of steps, a bit for each.
use Rattle.std.specs.Prelude.{◌≡◌, ℕ, zero, suc, ◌*◌, ◌%◌, ◌^◌, ◌<◌, Bool, true, false, cond, nat_eq}
use Rattle.std.specs.Int.{bit_at}
use Rattle.std.specs.Int.RustNames.{bit_or}

-- a set has a step
abbrev pub has_step : ℕ → ℕ → Bool
has_step set step = nat_eq (bit_at set step) 1

-- a set with a step more, if that is to be in it
abbrev pub put : ℕ → ℕ → Bool → ℕ
put set step is_in = bit_or set (cond is_in 1 0 * 2 ^ step % 2 ^ 32)

-- the step is the least one of the set
pub record IsLeast (set step : ℕ) : Type 0 where
  pub few : step < 32
  pub is : has_step set step ≡ true
  pub before : (other : ℕ) → other < step → has_step set other ≡ false

-- the set of those of the first steps that pass a test
unfoldable pub steps_of : (ℕ → Bool) → ℕ → ℕ
steps_of test zero = 0
steps_of test (suc number) = put (steps_of test number) number (test number)
