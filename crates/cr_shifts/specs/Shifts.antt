-- What the jobs of a shift found and left.
use Rattle.std.specs.Prelude.{◌≡◌, ℕ, ◌<◌, List, ◌++◌, flat_map}
use Rattle.cr_model.specs.Problems.{ProblemParts}
use Rattle.cr_model.specs.Nodes.{Splits}
use Rattle.cr_model.specs.Sizes.{most_rows, size_of_all}
use Rattle.cr_shifts.specs.declared.finder.Findings.{Findings}

-- one job is split into what was found and what is left of it, which is less
pub record IsPartDone (p : ProblemParts) (job : List (List ℕ)) (done : Findings) : Type 0 where
  pub splits : Splits p job done.found.items done.rest.items
  pub smaller : size_of_all p most_rows done.rest.items < size_of_all p most_rows job

-- what all jobs found, and what they left
abbrev pub found_by : List Findings → List (List ℕ)
found_by done = flat_map (λ (one : Findings). one.found.items) done

abbrev pub left_by : List Findings → List (List ℕ)
left_by done = flat_map (λ (one : Findings). one.rest.items) done

-- some nodes are split into what comes behind touches that were found before, and the nodes that are left
pub record GoesOn (p : ProblemParts) (nodes before now left : List (List ℕ)) : Type 0 where
  pub more : List (List ℕ)
  pub behind : now ≡ before ++ more
  pub splits : Splits p nodes more left
