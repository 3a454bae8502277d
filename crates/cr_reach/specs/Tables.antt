-- Reach tables, as contracts see them: the depth, the rows up to that level, and of each the level.
use Rattle.std.specs.Prelude.{ℕ, zero, suc, ◌<◌, List, ◌++◌, length, replicate, ◌≡◌}
use Rattle.cr_model.specs.Problems.{ProblemParts}
use Rattle.cr_model.specs.Levels.{level, up_to_level, depth}

pub record ReachParts : Type 0 where
  pub depth : ℕ
  pub rows : List (List ℕ)
  pub levels : List ℕ

-- the level of each row that is listed up to a level
abbrev pub levels_up_to : ProblemParts → ℕ → List ℕ
levels_up_to p zero = replicate (length (level p zero)) zero
levels_up_to p (suc leads) = levels_up_to p leads ++ replicate (length (level p (suc leads))) (suc leads)

-- the rows up to a level
abbrev pub reach_to : ProblemParts → ℕ → ReachParts
reach_to p leads = record { depth = leads; rows = up_to_level p leads; levels = levels_up_to p leads }

-- the table of a problem, for so many rows at most
abbrev pub reach_table : ProblemParts → ℕ → ReachParts
reach_table p most = reach_to p (depth p most)

-- what a table keeps: each row has a level, and one more than the depth is a number of 32 bits
pub record AreKept (depth : ℕ) (rows : List (List ℕ)) (levels : List ℕ) : Type 0 where
  pub counted : length levels ≡ length rows
  pub deep : depth < 4294967295
