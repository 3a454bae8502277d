-- Rows by the numbers that they are packed in: a row's key tells all of its bells, and how many they are.
use Rattle.std.specs.Prelude.{◌≡◌, ℕ, ◌≤◌, max, List, [], ◌∷◌}
use Rattle.cr_row.specs.Rows.{IsRow}
use Rattle.cr_row.specs.Packed.{bells_of, key_of}

abbrev pub greatest : List ℕ → ℕ
greatest [] = 0
greatest (bell ∷ bells) = max bell (greatest bells)

-- the stage of the row with this key: its greatest bell. Behind its last bell the key says 1
abbrev pub stage_of : ℕ → ℕ
stage_of key = greatest (bells_of 16 key)

-- the row with this key
unfoldable pub row_of : ℕ → List ℕ
row_of key = bells_of (stage_of key) key

-- it is the key of a row
pub record IsKey (key : ℕ) : Type 0 where
  pub at_least : 3 ≤ stage_of key
  pub at_most : stage_of key ≤ 16
  pub row : IsRow (row_of key)
  pub is : key_of (row_of key) ≡ key
