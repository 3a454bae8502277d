-- Where the leads of a node end, by numbers.
use Rattle.std.specs.Prelude.{◌≡◌, ℕ, nat_eq, ◌+◌, ◌-◌, ◌<◌, ◌≤◌, List, [], ◌∷◌, ◌++◌, length, get_or, take}
use Rattle.cr_model.specs.Problems.{ProblemParts}
use Rattle.cr_model.specs.Callings.{length_of, head_of}
use Rattle.cr_path.specs.Numbers.{NumberParts, IsBase, base_of, comes_round}
use Rattle.cr_path.specs.Sets.{AreUncut}
use Rattle.cr_path.specs.declared.walks.ends.LeadEnd.{LeadEnd}

-- the last step of a node
abbrev pub final_step : List ℕ → ℕ
final_step node = get_or node (length node - 1) 0

-- the end of a calling: where the records of its head start, how many changes lead there, and whether its head comes round
pub record IsEnd (p : ProblemParts) (t : NumberParts) (calling : List ℕ) (end : LeadEnd) : Type 0 where
  pub from : IsBase t (head_of p calling) end.base
  pub by_records : end.base ≡ base_of t calling
  pub long : end.rung ≡ length_of p calling
  pub round : nat_eq end.round 1 ≡ comes_round p (head_of p calling)

-- the ends of a node's leads, from the first on, and before them the end of no lead: of each front of the node the children are left by the steps after the one that the node takes there, and of the node itself those from the next one on
pub record AreEnds (p : ProblemParts) (t : NumberParts) (node : List ℕ) (next : ℕ) (ends : List LeadEnd) : Type 0 where
  pub number : length ends ≡ length node + 1
  pub each : (i : ℕ) (d : LeadEnd) → i ≤ length node → IsEnd p t (take i node) (get_or ends i d)
  pub tried : (i : ℕ) (d : LeadEnd) → i < length node → AreUncut p (take i node) (get_or node i 0 + 1) (get_or ends i d).left
  pub left : (d : LeadEnd) → AreUncut p node next (get_or ends (length node) d).left

-- the last end of some leads, and a list that begins with those before it
pub record EndsParts : Type 0 where
  pub before : List LeadEnd
  pub last : LeadEnd

-- those of a node, which has as many leads as ends stand before the last one
abbrev pub ends_of : List ℕ → EndsParts → List LeadEnd
ends_of node parts = take (length node) parts.before ++ parts.last ∷ []

abbrev pub HasEnds : ProblemParts → NumberParts → List ℕ → ℕ → EndsParts → Type 0
HasEnds p t node next parts = AreEnds p t node next (ends_of node parts)
