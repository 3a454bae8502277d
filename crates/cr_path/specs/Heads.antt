-- The heads of a problem, to which of them leads lead, and how far they are from rounds.
use Rattle.std.specs.Prelude.{◌≡◌, ℕ, ◌+◌, ◌*◌, ◌<◌, List, [], length, get_or, map}
use Rattle.cr_row.specs.Rows.{product, IsInverse}
use Rattle.cr_model.specs.Problems.{ProblemParts}
use Rattle.cr_model.specs.Levels.{at_least}
use Rattle.cr_model.specs.Sizes.{most_rows}
use Rattle.cr_rowset.specs.Pushing.{StandsAt}
use Rattle.cr_path.specs.Numbers.{head_after}
use Rattle.cr_path.specs.RungLeads.{AreHeads}
use Rattle.cr_path.specs.ToldRows.{ArePlaces}
use Rattle.cr_path.specs.declared.numbers.heads.Heads.{Heads}

-- the numbers of the heads after the first so many leads, of the first head's steps first
pub record AreNext (p : ProblemParts) (heads : List (List ℕ)) (next : List ℕ) (done : ℕ) : Type 0 where
  pub counted : length next ≡ done
  pub each : (place step : ℕ) → place < length heads → step < length p.leads → place * length p.leads + step < done
      → StandsAt heads (head_after p (get_or heads place []) step) (get_or next (place * length p.leads + step) 0)

-- they are heads of a problem, with the heads after all leads
pub record AreAllHeads (p : ProblemParts) (heads : Heads) : Type 0 where
  pub are : AreHeads p heads.rows.items
  pub next : AreNext p heads.rows.items heads.next.items (length heads.rows.items * length p.leads)
  pub levels : heads.levels.items ≡ map (at_least p most_rows) heads.rows.items

-- of a head at its place: its inverse, and where some rows stand that are rung from it
pub record IsNamed (p : ProblemParts) (heads : Heads) (place : ℕ) (back : List ℕ) (some rows : List (List ℕ)) (numbers : List ℕ) : Type 0 where
  pub all : AreAllHeads p heads
  pub within : place < length heads.rows.items
  pub inverse : IsInverse (get_or heads.rows.items place []) back
  pub names : ArePlaces rows (map (product (get_or heads.rows.items place [])) some) numbers
