-- Which touches are wanted, and which one of its rotations is kept.
use Rattle.std.specs.Prelude.{◌≡◌, ℕ, List, ◌++◌}
use Rattle.std.specs.Cmp.Lexicographic.{slice_cmp}
use Rattle.std.specs.Ordering.{nat_cmp}
use Rattle.std.specs.declared.cmp.Ordering.TheVariants.{Less}
use Rattle.cr_model.specs.Problems.{ProblemParts}
use Rattle.cr_model.specs.Callings.{HasSteps, TrueTouch}
use Rattle.cr_model.specs.Queries.{Meets}

-- a true touch of the problem's steps that meets its query
pub record Wanted (p : ProblemParts) (calling : List ℕ) : Type 0 where
  pub steps : HasSteps p calling
  pub touch : TrueTouch p calling
  pub meets : Meets p calling

-- the second calling is the first, begun at a later lead
abbrev pub IsRotation : List ℕ → List ℕ → Type 0
IsRotation calling other = (front back : List ℕ) × (calling ≡ front ++ back) × (other ≡ back ++ front)

-- lexicographically less, step number by step number
abbrev pub IsLess : List ℕ → List ℕ → Type 0
IsLess calling other = slice_cmp nat_cmp calling other ≡ Less

-- wanted, and no rotation of it is wanted and less
pub record Kept (p : ProblemParts) (calling : List ℕ) : Type 0 where
  pub wanted : Wanted p calling
  pub least : (other : List ℕ) → IsRotation calling other → Wanted p other → IsLess other calling → ⊥
