-- Walks, as contracts see them, and what their fields keep.
use Rattle.std.specs.Prelude.{◌≡◌, ℕ, ◌-◌, ◌≤◌, List, length, take}
use Rattle.cr_model.specs.Problems.{ProblemParts}
use Rattle.cr_model.specs.Callings.{length_of, HasSteps}
use Rattle.cr_leads.specs.Tables.{TableParts, lead_table}
use Rattle.cr_query.specs.Meters.{MeterParts, meter_from}
use Rattle.cr_prune.specs.declared.ends.LeadEnd.{LeadEnd}
use Rattle.cr_prune.specs.declared.held.Held.{Held}
use Rattle.cr_prune.specs.Ends.{AreEnds}
use Rattle.cr_prune.specs.Rung.{room_of}
use Rattle.cr_prune.specs.Holding.{AreFirst}

-- the problem and the node
pub record WalkParts : Type 0 where
  pub problem : ProblemParts
  pub node : List ℕ

abbrev pub walk_from : ProblemParts → List ℕ → WalkParts
walk_from p node = record { problem = p; node = node }

-- the node without its last step
abbrev pub parent : List ℕ → List ℕ
parent node = take (length node - 1) node

-- what the fields keep: each is told by the problem and the node
pub record IsWalk (p : ProblemParts) (leads : TableParts) (node : List ℕ) (marks : List LeadEnd) (held : Held) (fresh : ℕ) (counted : MeterParts) : Type 0 where
  pub table : leads ≡ lead_table p
  pub steps : HasSteps p node
  pub short : length_of p node ≤ room_of p
  pub ends : AreEnds p node marks
  pub first : AreFirst p node held fresh
  pub meter : counted ≡ meter_from p node
