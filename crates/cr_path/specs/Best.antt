-- Which rotation of a calling that meets the patterns is the least.
use Rattle.std.specs.Prelude.{◌≡◌, ℕ, ◌<◌, List, length}
use Rattle.cr_model.specs.declared.query.Cell.{Cell}
use Rattle.cr_model.specs.Problems.{ProblemParts}
use Rattle.cr_model.specs.Callings.{rows_of, head_of}
use Rattle.cr_model.specs.Decided.{rotated}
use Rattle.cr_model.specs.Queries.{rows_fitting}
use Rattle.cr_model.specs.Touches.{IsLess}
use Rattle.cr_query.specs.Meeting.{MeetsByRows}
use Rattle.cr_path.specs.Numbers.{NumberParts, IsBase}
use Rattle.cr_path.specs.declared.numbers.rotated_patterns.Way.{Way}

-- no rotation is less and meets each pattern
abbrev pub HasNoneBetter : ProblemParts → List ℕ → Type 0
HasNoneBetter p calling = (by : ℕ) → 0 < by → by < length calling → IsLess (rotated by calling) calling → MeetsByRows p (rows_of p (rotated by calling)) → ⊥

-- it meets each pattern, and no rotation that is less does
pub record IsBest (p : ProblemParts) (calling : List ℕ) : Type 0 where
  pub meets : MeetsByRows p (rows_of p calling)
  pub least : HasNoneBetter p calling

-- where the records of the head after a calling start, and how many of its rows fit some cells
pub record IsWay (p : ProblemParts) (t : NumberParts) (cells : List Cell) (calling : List ℕ) (way : Way) : Type 0 where
  pub base : IsBase t (head_of p calling) way.base
  pub number : way.number ≡ rows_fitting cells (rows_of p calling)
