-- The least and the greatest number that a function gives in a set of lists of steps.
use Rattle.std.specs.Prelude.{◌≡◌, ℕ, ◌≤◌, List}

-- a member of the set has this number, and none has less
pub record IsLeast (Holds : List ℕ → Type 0) (number_of : List ℕ → ℕ) (number : ℕ) : Type 0 where
  pub one : List ℕ
  pub holds : Holds one
  pub is : number_of one ≡ number
  pub no_less : (other : List ℕ) → Holds other → number ≤ number_of other

-- a member of the set has this number, and none has more
pub record IsGreatest (Holds : List ℕ → Type 0) (number_of : List ℕ → ℕ) (number : ℕ) : Type 0 where
  pub one : List ℕ
  pub holds : Holds one
  pub is : number_of one ≡ number
  pub no_more : (other : List ℕ) → Holds other → number_of other ≤ number
