-- Words that turn back, and words that are the least of their rotations.
use Rattle.std.specs.Prelude.{◌≡◌, ◌≢◌, ℕ, ◌+◌, ◌<◌, ◌≤◌, List, [], ◌++◌, length, get_or, take}
use Rattle.cr_model.specs.Touches.{IsRotation, IsLess}

-- a word turns back: some proper suffix of it, not empty, is less than the prefix of the same length
pub record TurnsBack (word : List ℕ) : Type 0 where
  pub front : List ℕ
  pub back : List ℕ
  pub is : word ≡ front ++ back
  pub proper : front ≢ []
  pub some : back ≢ []
  pub less : IsLess back (take (length back) word)

-- no rotation of the word is less than it
abbrev pub IsLeastRotation : List ℕ → Type 0
IsLeastRotation word = (other : List ℕ) → IsRotation word other → IsLess other word → ⊥

-- each step is the one that stands `period` places before it, where there is one
abbrev pub Repeats : List ℕ → ℕ → Type 0
Repeats word period = (i : ℕ) → i + period < length word → get_or word (i + period) 0 ≡ get_or word i 0

-- the least period of a word
pub record IsPeriod (word : List ℕ) (period : ℕ) : Type 0 where
  pub some : 0 < period
  pub within : period ≤ length word
  pub repeats : Repeats word period
  pub least : (less : ℕ) → 0 < less → less < period → Repeats word less → ⊥
