-- The listing of levels on its way.
use Rattle.std.specs.Prelude.{◌≡◌, ◌≢◌, ℕ, ◌<◌, ◌≤◌, List, [], length, drop}
use Rattle.cr_model.specs.Problems.{ProblemParts}
use Rattle.cr_model.specs.Levels.{level, up_to_level}
use Rattle.cr_leads.specs.Tables.{TableParts, lead_table}
use Rattle.cr_rowset.specs.Stacks.{StackParts}
use Rattle.cr_reach.specs.Tables.{levels_up_to}
use Rattle.cr_reach.specs.Spreading.{AreOfStage}

-- the rows up to a level, of which the last ones are its own; none of the levels is empty
pub record IsUpTo (p : ProblemParts) (depth : ℕ) (rows : List (List ℕ)) (levels : List ℕ) (start : ℕ) : Type 0 where
  pub all : rows ≡ up_to_level p depth
  pub last : drop start rows ≡ level p depth
  pub leads : levels ≡ levels_up_to p depth
  pub some : (number : ℕ) → number ≤ depth → level p number ≢ []

-- what is listed so far
pub record IsListed (table : TableParts) (most depth : ℕ) (stack : StackParts) (levels : List ℕ) (start : ℕ) : Type 0 where
  pub room : stack.room ≡ most
  pub few : length stack.rows ≤ most
  pub counted : length levels ≡ length stack.rows
  pub deep : depth < length stack.rows
  pub begun : start ≤ length stack.rows
  pub staged : AreOfStage table.stage stack.rows
  pub of_problem : (p : ProblemParts) → table ≡ lead_table p → IsUpTo p depth stack.rows levels start
