-- Numbered walks, as contracts see them, and what their fields keep.
use Rattle.std.specs.Prelude.{◌≡◌, ℕ, ◌+◌, ◌-◌, ◌≤◌, Bool, List, length, take}
use Rattle.cr_model.specs.Limits.{most_lead_changes}
use Rattle.cr_model.specs.Problems.{ProblemParts}
use Rattle.cr_model.specs.Queries.{part_cap}
use Rattle.cr_model.specs.Dead.{turn_free}
use Rattle.cr_model.specs.Nodes.{IsValid}
use Rattle.cr_model.specs.Sound.{IsSound}
use Rattle.cr_leads.specs.Tables.{TableParts, lead_table}
use Rattle.cr_path.specs.Numbers.{NumberParts, IsNumbered}
use Rattle.cr_path.specs.Ends.{EndsParts, HasEnds}
use Rattle.cr_path.specs.Marks.{HasMarks}
use Rattle.cr_path.specs.Counted.{IsCounted}
use Rattle.cr_path.specs.declared.walks.node_counts.Counting.{Counting}

-- the problem, the node, and the step from which on the node's children are not tried yet
pub record WalkParts : Type 0 where
  pub problem : ProblemParts
  pub node : List ℕ
  pub next : ℕ

abbrev pub walk_from : ProblemParts → List ℕ → ℕ → WalkParts
walk_from p node next = record { problem = p; node = node; next = next }

-- the same with the numbers
pub record PathParts : Type 0 where
  pub problem : ProblemParts
  pub numbers : NumberParts
  pub node : List ℕ
  pub next : ℕ

abbrev pub path_from : ProblemParts → NumberParts → List ℕ → ℕ → PathParts
path_from p t node next = record { problem = p; numbers = t; node = node; next = next }

-- the node without its last step
abbrev pub parent : List ℕ → List ℕ
parent node = take (length node - 1) node

-- as many rows as a part may have, and one lead more
abbrev pub room_of : ProblemParts → ℕ
room_of p = part_cap p + most_lead_changes

-- what the fields keep: each is told by the problem, the node and the next step
pub record IsWalk (p : ProblemParts) (leads : TableParts) (t : NumberParts) (node : List ℕ) (next : ℕ) (places : EndsParts) (marks : List Bool) (unmarked : ℕ) (counting : Counting) (turn_free_now : Bool) : Type 0 where
  pub sound : IsSound p
  pub table : leads ≡ lead_table p
  pub numbered : IsNumbered p t
  pub valid : IsValid p node
  pub tried : next ≤ length p.leads
  pub ends : HasEnds p t node next places
  pub marked : HasMarks p t node marks unmarked
  pub counted : IsCounted p node counting
  pub free : turn_free_now ≡ turn_free p.query
