-- What is wrong with places that are not those of a change.
use Rattle.std.specs.Prelude.{◌≡◌, ◌⊎◌, ℕ, ◌+◌, ◌-◌, ◌%◌, ◌<◌, ◌≤◌, List, [], ◌∷◌}
use Rattle.cr_row.specs.Rows.{IsNext}
use Rattle.cr_row.specs.declared.faults.PlaceFault.{PlaceFault}
use Rattle.cr_row.specs.declared.faults.PlaceFault.TheVariants.{Above, Order, Gap}

-- what is wrong with a place of n, by the one before it: it exceeds n, or does not exceed the one before, or an odd
-- number of places stands between them
abbrev pub IsWrongPlace : ℕ → ℕ → ℕ → PlaceFault → Type 0
IsWrongPlace n before place (Above p) = (p ≡ place) × (n < place)
IsWrongPlace n before place (Order p) = (p ≡ place) × (place ≤ n) × (place ≤ before)
IsWrongPlace n before place (Gap p) = (p ≡ place) × (place ≤ n) × (before < place) × ((place - before) % 2 ≡ 0)

-- the first of some places of n that is wrong, and why. After the last one the gap up to n + 1 can be wrong
abbrev pub IsFirstFault : ℕ → ℕ → List ℕ → PlaceFault → Type 0
IsFirstFault n before [] fault = (fault ≡ Gap (n + 1)) × ((n + 1 - before) % 2 ≡ 0)
IsFirstFault n before (place ∷ places) fault =
    IsWrongPlace n before place fault ⊎ ((place ≤ n) × IsNext before place × IsFirstFault n place places fault)

-- the places given on a stage have this fault: 0 stands before the first
abbrev pub IsPlaceFault : ℕ → List ℕ → PlaceFault → Type 0
IsPlaceFault stage places fault = IsFirstFault stage 0 places fault
