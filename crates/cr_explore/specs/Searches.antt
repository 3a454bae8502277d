-- The tables of a search.
use Rattle.std.specs.Prelude.{◌≡◌, ℕ, ◌<◌, ◌≤◌, List, length, Option, IfSome}
use Rattle.cr_model.specs.Problems.{ProblemParts}
use Rattle.cr_model.specs.Sizes.{most_rows}
use Rattle.cr_model.specs.Nodes.{IsValid}
use Rattle.cr_model.specs.Sound.{IsSound}
use Rattle.cr_ahead.specs.Outlooks.{OutlookParts, IsOutlook}
use Rattle.cr_leads.specs.Tables.{TableParts, lead_table}
use Rattle.cr_reach.specs.Tables.{ReachParts, reach_table}
use Rattle.cr_false.specs.Sets.{IsWholeNumber}
use Rattle.cr_false.specs.Answers.{HasRoom}
use Rattle.cr_path.specs.Numbers.{NumberParts, IsNumbered}
use Rattle.cr_path.specs.Walks.{WalkParts as NumberWalkParts}
use Rattle.cr_prune.specs.Walks.{WalkParts}
use Rattle.cr_prune.specs.Pruners.{PrunerParts}
use Rattle.cr_explore.specs.declared.choice.Search.{Search}
use Rattle.cr_explore.specs.declared.choice.Search.TheVariants.{Rows, Table}

-- they are those of the problem
pub record AreTables (p : ProblemParts) (leads : TableParts) (reach : ReachParts) (numbers : Option NumberParts) : Type 0 where
  pub are_leads : leads ≡ lead_table p
  pub are_levels : reach ≡ reach_table p most_rows
  pub are_numbers : IfSome numbers (IsNumbered p)

-- the problem of a search
abbrev pub searched : Search → ProblemParts
searched (Rows p) = p
searched (Table p) = p

-- a search has a falseness table exactly where that of the problem has no more than 4,000,000 rows
abbrev pub HasTableWhereItFits : ProblemParts → Search → Type 0
HasTableWhereItFits p (Rows q) = (number : ℕ) × IsWholeNumber (lead_table p) number × (4000000 < number)
HasTableWhereItFits p (Table q) = HasRoom (lead_table p) 4000000

-- the path's walk is of the problem, and so are its tables
pub record IsNumberPath (p : ProblemParts) (leads : TableParts) (numbers : NumberParts) (walk : NumberWalkParts) : Type 0 where
  pub table : leads ≡ lead_table p
  pub numbered : IsNumbered p numbers
  pub walk_of : walk.problem ≡ p

-- the path's walk and pruner are of the problem, and so are its tables, and the next step is one of the problem's, or all are tried
pub record IsWalkPath (p : ProblemParts) (leads : TableParts) (walk : WalkParts) (pruner : PrunerParts) (next : ℕ) : Type 0 where
  pub table : leads ≡ lead_table p
  pub walk_of : walk.problem ≡ p
  pub pruner_of : pruner.problem ≡ p
  pub reach : pruner.reach ≡ reach_table p most_rows
  pub tried : next ≤ length p.leads

-- the numbers of a search are those of the problem, and its outlook is from their heads
pub record IsNarrow (p : ProblemParts) (numbers : NumberParts) (outlook : OutlookParts) : Type 0 where
  pub numbered : IsNumbered p numbers
  pub outlook_of : IsOutlook p numbers.heads outlook

-- a walk at a valid node, and a pruner of its problem
pub record IsReady (walk : WalkParts) (pruner : PrunerParts) : Type 0 where
  pub sound : IsSound walk.problem
  pub valid : IsValid walk.problem walk.node
  pub same : walk.problem ≡ pruner.problem
  pub reach : pruner.reach ≡ reach_table walk.problem most_rows
