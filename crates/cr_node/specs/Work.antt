-- Jobs, and finished work on one: what was found, what is left, and how many turns it took.
use Rattle.std.specs.Prelude.{◌≡◌, ℕ, ◌+◌, ◌<◌, List, [], length, All}
use Rattle.cr_model.specs.Problems.{ProblemParts}
use Rattle.cr_model.specs.Nodes.{IsValid, Independent, Splits}
use Rattle.cr_model.specs.Sizes.{most_rows, size_of_all}

-- what contracts see of finished work
pub record Work : Type 0 where
  pub problem : ProblemParts
  pub job : List (List ℕ)
  pub found : List (List ℕ)
  pub rest : List (List ℕ)
  pub used : ℕ

-- a list of independent valid nodes that is not empty
pub record IsJob (p : ProblemParts) (nodes : List (List ℕ)) : Type 0 where
  pub some : 0 < length nodes
  pub valid : All (IsValid p) nodes
  pub independent : Independent p [] nodes

-- a job is split into what was found and what is left, and each turn took one off its size
pub record IsDone (p : ProblemParts) (nodes found rest : List (List ℕ)) (used : ℕ) : Type 0 where
  pub job : IsJob p nodes
  pub splits : Splits p nodes found rest
  pub size : size_of_all p most_rows rest + used ≡ size_of_all p most_rows nodes
