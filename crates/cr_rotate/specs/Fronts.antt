-- The fronts of a word, by places: which turn back, and the period of one that does not.
use Rattle.std.specs.Prelude.{◌≡◌, ℕ, zero, suc, ◌+◌, ◌<◌, ◌≤◌, List, length, get_or}

-- moved by k places the front of n steps first differs at place j, where it falls below itself
pub record Falls (word : List ℕ) (n k j : ℕ) : Type 0 where
  pub moved : 0 < k
  pub inside : k + j < n
  pub same : (i : ℕ) → i < j → get_or word (k + i) 0 ≡ get_or word i 0
  pub below : get_or word (k + j) 0 < get_or word j 0

-- moved by k places the front of n steps first differs at place j, where it rises above itself
pub record Rises (word : List ℕ) (n k j : ℕ) : Type 0 where
  pub inside : k + j < n
  pub same : (i : ℕ) → i < j → get_or word (k + i) 0 ≡ get_or word i 0
  pub above : get_or word j 0 < get_or word (k + j) 0

-- the front of n steps turns back
abbrev pub FrontTurns : List ℕ → ℕ → Type 0
FrontTurns word n = (k j : ℕ) × Falls word n k j

-- the front of n steps repeats its first p steps, which rise above themselves however they are moved. So it does not turn back
pub record FrontRepeats (word : List ℕ) (n p : ℕ) : Type 0 where
  pub some : 0 < p
  pub within : p ≤ n
  pub repeats : (i : ℕ) → i + p < n → get_or word (i + p) 0 ≡ get_or word i 0
  pub rises : (k : ℕ) → 0 < k → k < p → (j : ℕ) × Rises word p k j

-- what a period that is kept for a front tells: 0 that the front turns back
abbrev pub Tells : List ℕ → ℕ → ℕ → Type 0
Tells word n zero = FrontTurns word n
Tells word n (suc p) = FrontRepeats word n (suc p)

-- a word and the periods of its fronts, from the first step's on
pub record IsKept (word periods : List ℕ) : Type 0 where
  pub few : length word ≤ 1024
  pub long : length periods ≡ length word
  pub each : (i : ℕ) → i < length word → Tells word (i + 1) (get_or periods i 0)
