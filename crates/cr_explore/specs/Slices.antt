-- Slices of a list, and what is told of each of them.
use Rattle.std.specs.Prelude.{◌≡◌, ℕ, ◌≤◌, List, [], ◌∷◌, Option, None, Some, Result, Ok, Err}
use Rattle.cr_explore.specs.declared.slices.Slice.{Slice}

-- a slice of a list of this length
pub record IsSlice (long : ℕ) (slice : Slice) : Type 0 where
  pub order : slice.start ≤ slice.end
  pub inside : slice.end ≤ long

-- each begins where the one before it ends, the first at one place, and the last ends at another
abbrev pub Adjoin : ℕ → List Slice → ℕ → Type 0
Adjoin start [] end = start ≡ end
Adjoin start (slice ∷ slices) end = (slice.start ≡ start) × Adjoin slice.end slices end

-- from a place on this is right
abbrev pub RightFrom : (ℕ → Type 0) → ℕ → ℕ → Type 0
RightFrom IsRight start i = start ≤ i → IsRight i

-- the first index that is told of slices one after another, unless one before it has a fault
abbrev pub first_told : {Fault : Type 0} → List (Result (Option ℕ) Fault) → Result (Option ℕ) Fault
first_told [] = Ok None
first_told (Err fault ∷ told) = Err fault
first_told (Ok (Some index) ∷ told) = Ok (Some index)
first_told (Ok None ∷ told) = first_told told
