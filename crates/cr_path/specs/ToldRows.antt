-- The rows that tell the leads of a problem, each once.
use Rattle.std.specs.Prelude.{◌≡◌, ℕ, ◌<◌, List, [], length, get_or, map, All}
use Rattle.cr_model.specs.Problems.{ProblemParts}

-- of each step the rows that tell its lead; these rows, each once; and of each step their places among these
pub record ToldParts : Type 0 where
  pub told : List (List (List ℕ))
  pub rows : List (List ℕ)
  pub leads : List (List ℕ)

-- some rows by their places among others
pub record ArePlaces (rows some : List (List ℕ)) (places : List ℕ) : Type 0 where
  pub within : All (λ place. place < length rows) places
  pub are : map (λ place. get_or rows place []) places ≡ some

-- the rows that tell the leads of the first so many steps of a problem
pub record AreToldRows (p : ProblemParts) (t : ToldParts) (done : ℕ) : Type 0 where
  pub counted : length t.leads ≡ done
  pub staged : All (λ row. length row ≡ p.stage) t.rows
  pub each : (step : ℕ) → step < done → ArePlaces t.rows (get_or t.told step []) (get_or t.leads step [])
