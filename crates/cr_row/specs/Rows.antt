-- Rows and changes of the Framework for Method Ringing, as plain lists: the bell at each place, from the first on.
use Rattle.std.specs.Prelude.{◌≡◌, ◌⊎◌, ℕ, ◌+◌, ◌-◌, ◌%◌, ◌<◌, ◌≤◌, Bool, false, cond, List, [], ◌∷◌, length, get_or, map, nat_eq}
use Rattle.std.specs.List.{range_with_len, list_any}

-- a row: each of the bells 1 to the length, once. No other stands at a place, none stands twice, and each stands
-- somewhere
pub record IsRow (row : List ℕ) : Type 0 where
  pub in_range : (i : ℕ) → i < length row → (0 < get_or row i 0) × (get_or row i 0 ≤ length row)
  pub apart : (i j : ℕ) → i < length row → j < length row → get_or row i 0 ≡ get_or row j 0 → i ≡ j
  pub reached : (b : ℕ) → 0 < b → b ≤ length row → (i : ℕ) × (i < length row) × (get_or row i 0 ≡ b)

-- rounds: 1, 2, and so on to n
abbrev pub rounds : ℕ → List ℕ
rounds n = range_with_len 1 n

-- h·r: at each place, the bell of h at the place that r has there
abbrev pub product : List ℕ → List ℕ → List ℕ
product h r = map (λ b. get_or h (b - 1) 0) r

-- r undoes h, on both sides
pub record IsInverse (h r : List ℕ) : Type 0 where
  pub right : product h r ≡ rounds (length h)
  pub left : product r h ≡ rounds (length h)

-- what a change is given by: its stage, and the list of the places made
pub record Places : Type 0 where
  pub stage : ℕ
  pub made : List ℕ

-- a place is above the one before it, and an even number of places stands between them
abbrev pub IsNext : ℕ → ℕ → Type 0
IsNext before place = (before < place) × ((place - before) % 2 ≡ 1)

-- each of some places of n follows the one before it, and n + 1 follows the last
abbrev pub IsChain : ℕ → ℕ → List ℕ → Type 0
IsChain n before [] = IsNext before (n + 1)
IsChain n before (place ∷ places) = IsNext before place × IsChain n place places

-- a change: the places made ascend, and each stretch of places not made, also before the first and after the last,
-- has an even length
abbrev pub IsChange : Places → Type 0
IsChange change = IsChain change.stage 0 change.made

-- a row from place p on, after a change: at a place made the bell stays; in a stretch of places not made the first
-- swaps with the second, the third with the fourth
abbrev pub changed : List ℕ → ℕ → List ℕ → List ℕ
changed made p [] = []
changed made p (x ∷ []) = x ∷ []
changed made p (x ∷ y ∷ xs) =
    cond (list_any (nat_eq p) made) (x ∷ changed made (p + 1) (y ∷ xs)) (y ∷ x ∷ changed made (p + 2) xs)

-- the row after a change
abbrev pub after : Places → List ℕ → List ℕ
after change row = changed change.made 1 row

-- the place is made
abbrev pub is_made : Places → ℕ → Bool
is_made change place = list_any (nat_eq place) change.made

-- after a change the bells of a row at two indexes have swapped: neighbours, at places that are not made
pub record HaveSwapped (change : Places) (row : List ℕ) (i j : ℕ) : Type 0 where
  pub within : j < change.stage
  pub next : (j ≡ i + 1) ⊎ (i ≡ j + 1)
  pub free : is_made change (j + 1) ≡ false
  pub here : get_or (after change row) i 0 ≡ get_or row j 0
  pub there : get_or (after change row) j 0 ≡ get_or row i 0

-- after a change the bell at the first index stands at the second, which is the same or next to it
pub record HasMoved (change : Places) (row : List ℕ) (i j : ℕ) : Type 0 where
  pub within : j < length row
  pub up : j ≤ i + 1
  pub down : i ≤ j + 1
  pub bell : get_or (after change row) j 0 ≡ get_or row i 0
