-- Leads by their heads, with a falseness table.
use Rattle.std.specs.Prelude.{◌≡◌, ℕ, ◌+◌, ◌<◌, List, length, get_or, map, take, Contains, Option, Some, None}
use Rattle.cr_row.specs.Rows.{rounds, IsInverse}
use Rattle.cr_model.specs.Problems.{ProblemParts}
use Rattle.cr_model.specs.Callings.{rows_of, head_of, HasSteps}
use Rattle.cr_leads.specs.Tables.{TableParts, lead_table}
use Rattle.cr_rowset.specs.Pushing.{StandsAt}
use Rattle.cr_false.specs.Sets.{FalseParts, IsFalseTable}
use Rattle.cr_prune.specs.declared.heads.Earlier.{Earlier}

-- the problem, and the leads
pub record HeadsParts : Type 0 where
  pub problem : ProblemParts
  pub leads : List ℕ

abbrev pub heads_from : ProblemParts → List ℕ → HeadsParts
heads_from p leads = record { problem = p; leads = leads }

-- where a row stands among others, or that it stands nowhere
abbrev pub IsFound : List (List ℕ) → List ℕ → Option ℕ → Type 0
IsFound rows row (Some place) = StandsAt rows row place
IsFound rows row None = Contains rows row → ⊥

abbrev pub steps_of : List Earlier → List ℕ
steps_of earlier = map (λ lead. lead.step) earlier

-- each lead has the inverse of the head before it, and where rounds first stands up to its end
pub record AreHeads (p : ProblemParts) (leads : TableParts) (table : FalseParts) (earlier : List Earlier) : Type 0 where
  pub leads_are : leads ≡ lead_table p
  pub table_is : IsFalseTable (lead_table p) table
  pub steps : HasSteps p (steps_of earlier)
  pub inverses : (i : ℕ) (d : Earlier) → i < length earlier → IsInverse (head_of p (take i (steps_of earlier))) (get_or earlier i d).inverse
  pub round_heads : (i : ℕ) (d : Earlier) → i < length earlier → IsFound (rows_of p (take (i + 1) (steps_of earlier))) (rounds p.stage) (get_or earlier i d).round
