-- What is found of a problem once, for all of its nodes.
use Rattle.std.specs.Prelude.{◌≡◌, ℕ, ◌<◌, ◌≤◌, false, not, nat_lt, [], ◌∷◌, length, get_or}
use Rattle.cr_model.specs.Problems.{ProblemParts}
use Rattle.cr_model.specs.Callings.{shortest, rows_of}
use Rattle.cr_model.specs.Queries.{cap, part_cap}
use Rattle.cr_model.specs.Decided.{rows_differ}
use Rattle.cr_model.specs.Dead.{parts_of, turn_free}
use Rattle.cr_model.specs.Limits.{most_steps, most_lead_changes}
use Rattle.cr_prune.specs.declared.prune_limits.PruneLimits.{PruneLimits}

-- the numbers, and of each step whether its lead has a row twice
pub record ArePruneLimits (p : ProblemParts) (prune_limits : PruneLimits) : Type 0 where
  pub cap : prune_limits.cap ≡ cap p
  pub part_cap : prune_limits.part_cap ≡ part_cap p
  pub shortest : prune_limits.shortest ≡ shortest p
  pub short : prune_limits.shortest ≤ most_lead_changes
  pub several : prune_limits.several ≡ nat_lt 1 (parts_of p)
  pub turn_free : prune_limits.turn_free ≡ turn_free p.query
  pub steps : length prune_limits.false_leads ≡ most_steps
  pub leads : (step : ℕ) → step < length p.leads → get_or prune_limits.false_leads step false ≡ not (rows_differ (rows_of p (step ∷ [])))
