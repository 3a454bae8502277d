-- What each step of a lane tells its pass.
use Rattle.std.specs.Prelude.{◌≡◌, ℕ, ◌+◌, ◌<◌, ◌≤◌, List, length}
use Rattle.std.specs.List.{All}
use mathlib.Core.Option.{some}
use lib.ListN.{get_elem?}
use Rattle.cr_lanes.specs.declared.known.Known.{Known}
use Rattle.cr_lanes.specs.Lane.{times, Ascends, untaken, IsGreatest, IsThiefs, with_taken, with_stolen, LaneRule}

-- the end took its greatest number that it had not taken
abbrev pub Took : Known → List ℕ → Known → Type 0
Took v xs w = (w ≡ with_taken v xs) × All (λ x. IsGreatest x (untaken v.put v.taken)) xs

-- a thief stole a number that is above all that it stole before
abbrev pub Stole : Known → List ℕ → Known → Type 0
Stole v xs w = (w ≡ with_stolen v xs) × All (λ x. All (λ y. y < x) v.stolen) xs

-- a lane held so few numbers by its rule, and this pass knew what it knows
abbrev pub HadAtMost : ℕ → Known → Type 0
HadAtMost most v = (items : List ℕ) × (views : List Known) × (port : ℕ) × (length items ≤ most) × LaneRule items views × (get_elem? views port ≡ some v)

-- the lane holds no more than was put, which ascends; and where no pass is out, the numbers put are those left, those taken
-- and those gone
abbrev pub IsAllOf : Known → List ℕ → Type 0
IsAllOf v items = (length items ≤ length v.put) × Ascends v.put × (v.lent ≡ 0 → (x : ℕ) → times x v.put ≡ times x items + times x v.taken + times x v.gone)

-- A lane held so few numbers by its rule, and one of its passes knew what is told.
pub record HeldAtMost (most : ℕ) (knows : Known → Type 0) : Type 0 where
  pub items : List ℕ
  pub views : List Known
  pub port : ℕ
  pub known : Known
  pub few : length items ≤ most
  pub rule : LaneRule items views
  pub there : get_elem? views port ≡ some known
  pub told : knows known

-- a thief has stolen these
abbrev pub ThiefKnows : List ℕ → Known → Type 0
ThiefKnows stolen v = IsThiefs v × (v.stolen ≡ stolen)
