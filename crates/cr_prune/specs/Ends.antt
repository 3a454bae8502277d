-- Where the leads of a node end.
use Rattle.std.specs.Prelude.{◌≡◌, ℕ, ◌+◌, ◌≤◌, List, length, get_or, take}
use Rattle.cr_model.specs.Problems.{ProblemParts}
use Rattle.cr_model.specs.Callings.{length_of, head_of}
use Rattle.cr_prune.specs.declared.ends.LeadEnd.{LeadEnd}

-- the end of a calling: its head, and how many rows lead there
abbrev pub end_of : ProblemParts → List ℕ → LeadEnd
end_of p calling = record { head = head_of p calling; rung = length_of p calling }

-- the ends of a node's leads, from the first on, and before them the end of no lead
pub record AreEnds (p : ProblemParts) (node : List ℕ) (ends : List LeadEnd) : Type 0 where
  pub number : length ends ≡ length node + 1
  pub each : (i : ℕ) (d : LeadEnd) → i ≤ length node → get_or ends i d ≡ end_of p (take i node)
