-- Calls that fail by a list of their numbers.
use Rattle.std.specs.Prelude.{◌≡◌, ℕ, ◌+◌, ◌-◌, ◌^◌, ◌<◌, ◌↔◌, min, List, Contains, Result, IsErr}
use Rattle.cr_io.specs.Causes.{CountsFaults}

-- the numbers of the calls that fail, how many calls were made, and how many failed
pub record Calls : Type 0 where
  pub fail : List ℕ
  pub made : ℕ
  pub faults : ℕ

-- calls that fail by these numbers, none of them made yet
abbrev pub fresh_calls : List ℕ → Calls
fresh_calls fail = record { fail = fail; made = 0; faults = 0 }

-- the next call's number, from 1, is in the list, whose numbers are below 2 ^ 64
abbrev pub FailsNext : Calls → Type 0
FailsNext calls = (calls.made + 1 < 2 ^ 64) × Contains calls.fail (calls.made + 1)

-- one more call was made, which failed exactly where it had to; both counts stand still at a `u64`'s last value
pub record IsOneCall {T E : Type 0} (before after : Calls) (result : Result T E) : Type 0 where
  pub fail : after.fail ≡ before.fail
  pub made : after.made ≡ min (before.made + 1) (2 ^ 64 - 1)
  pub faults : CountsFaults before.faults after.faults result
  pub failed : IsErr result ↔ FailsNext before
