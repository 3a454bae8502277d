-- What a row stack is seen as.
use Rattle.std.specs.Prelude.{◌≢◌, ℕ, ◌<◌, List, [], length, get_or}

-- its rows, the first pushed first, and how many it may hold
pub record StackParts : Type 0 where
  pub rows : List (List ℕ)
  pub room : ℕ

-- no row stands at two places
abbrev pub AllDiffer : List (List ℕ) → Type 0
AllDiffer rows = (i j : ℕ) → i < j → j < length rows → get_or rows i [] ≢ get_or rows j []
