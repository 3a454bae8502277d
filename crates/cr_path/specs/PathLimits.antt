-- What is found of a problem once, for all heads.
use Rattle.std.specs.Prelude.{◌≡◌, ℕ, ◌≤◌, Bool, not, nat_lt, List, [], ◌∷◌, length, map}
use Rattle.std.specs.List.{range_with_len}
use Rattle.cr_model.specs.Problems.{ProblemParts}
use Rattle.cr_model.specs.Callings.{shortest, rows_of}
use Rattle.cr_model.specs.Queries.{cap, part_cap}
use Rattle.cr_model.specs.Decided.{rows_differ}
use Rattle.cr_model.specs.Dead.{parts_of}
use Rattle.cr_model.specs.Limits.{most_changes, most_lead_changes}
use Rattle.cr_path.specs.declared.numbers.path_limits.PathLimits.{PathLimits}

-- the lead of a step has a row twice
abbrev pub has_row_twice : ProblemParts → ℕ → Bool
has_row_twice p step = not (rows_differ (rows_of p (step ∷ [])))

-- the same of the first steps
abbrev pub false_leads : ProblemParts → ℕ → List Bool
false_leads p steps = map (has_row_twice p) (range_with_len 0 steps)

pub record ArePathLimits (p : ProblemParts) (path_limits : PathLimits) : Type 0 where
  pub cap : path_limits.cap ≡ cap p
  pub part_cap : path_limits.part_cap ≡ part_cap p
  pub shortest : path_limits.shortest ≡ shortest p
  pub few : path_limits.cap ≤ most_changes
  pub few_in_a_part : path_limits.part_cap ≤ most_changes
  pub some : 1 ≤ path_limits.shortest
  pub short : path_limits.shortest ≤ most_lead_changes
  pub several : path_limits.several ≡ nat_lt 1 (parts_of p)
  pub twice : path_limits.twice.items ≡ false_leads p (length p.leads)
