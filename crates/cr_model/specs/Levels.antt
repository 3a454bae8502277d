-- How many leads lead from a row to rounds: the rows of each level, listed level by level.
use Rattle.std.specs.Prelude.{◌≡◌, ◌≢◌, ℕ, zero, suc, ◌+◌, ◌<◌, ◌≤◌, Bool, true, false, cond, ◌&&◌, nat_eq, nat_le, List, [], ◌∷◌, ◌++◌, length, map, reverse, flat_map}
use Rattle.std.specs.Cmp.Lexicographic.{pointwise}
use Rattle.std.specs.List.{list_any, range_with_len, position_or_len}
use Rattle.cr_row.specs.Rows.{Places, rounds}
use Rattle.cr_model.specs.Problems.{ProblemParts}
use Rattle.cr_model.specs.Callings.{HasSteps, changes_of, changes_of_all, rows_from, last_of}

-- the row that some changes lead to
abbrev pub head_from : List ℕ → List Places → List ℕ
head_from row changes = last_of row (rows_from row changes)

-- some calling of so many leads leads from a row to rounds
pub record LeadsToRounds (p : ProblemParts) (leads : ℕ) (row : List ℕ) : Type 0 where
  pub calling : List ℕ
  pub steps : HasSteps p calling
  pub number : length calling ≡ leads
  pub round : head_from row (changes_of_all p calling) ≡ rounds p.stage

-- it is the level of a row: so many leads lead to rounds, and no fewer
pub record IsLevel (p : ProblemParts) (leads : ℕ) (row : List ℕ) : Type 0 where
  pub reached : LeadsToRounds p leads row
  pub least : (fewer : ℕ) → fewer < leads → LeadsToRounds p fewer row → ⊥

-- the row from which a step leads to a row: its changes rung from the last to the first
abbrev pub row_before : ProblemParts → List ℕ → ℕ → List ℕ
row_before p row step = head_from row (reverse (changes_of p step))

-- the rows one lead before some rows
abbrev pub rows_before : ProblemParts → List (List ℕ) → List (List ℕ)
rows_before p rows = flat_map (λ row. map (row_before p row) (range_with_len 0 (length p.leads))) rows

-- the row is one of these
abbrev pub is_listed : List (List ℕ) → List ℕ → Bool
is_listed rows row = list_any (pointwise nat_eq row) rows

-- of some rows those that are new, each once
abbrev pub new_rows : List (List ℕ) → List (List ℕ) → List (List ℕ)
new_rows seen [] = []
new_rows seen (row ∷ rows) = cond (is_listed seen row) [] (row ∷ []) ++ new_rows (row ∷ seen) rows

-- all rows up to a level, and those of that level
pub record Spread : Type 0 where
  pub all : List (List ℕ)
  pub last : List (List ℕ)

abbrev pub further : ProblemParts → Spread → Spread
further p so_far = record { all = so_far.all ++ new_rows so_far.all (rows_before p so_far.last); last = new_rows so_far.all (rows_before p so_far.last) }

-- level 0 is rounds, and each further level the new rows one lead before those of the last
unfoldable pub spread : ProblemParts → ℕ → Spread
spread p zero = record { all = rounds p.stage ∷ []; last = rounds p.stage ∷ [] }
spread p (suc leads) = further p (spread p leads)

-- the rows of a level, and all rows up to it
abbrev pub level : ProblemParts → ℕ → List (List ℕ)
level p leads = (spread p leads).last

abbrev pub up_to_level : ProblemParts → ℕ → List (List ℕ)
up_to_level p leads = (spread p leads).all

-- there are some rows
abbrev pub has_rows : List (List ℕ) → Bool
has_rows [] = false
has_rows (row ∷ rows) = true

-- the level has rows, and the rows up to it are no more than the most
abbrev pub has_room : ProblemParts → ℕ → ℕ → Bool
has_room p most leads = has_rows (level p leads) && nat_le (length (up_to_level p leads)) most

-- the same of all levels up to one: none of them is empty, and together they have no more rows than the most
pub record HasRoom (p : ProblemParts) (most leads : ℕ) : Type 0 where
  pub rows : (number : ℕ) → number ≤ leads → level p number ≢ []
  pub few : length (up_to_level p leads) ≤ most

-- the greatest number up to n that passes, or 0
abbrev pub greatest : (ℕ → Bool) → ℕ → ℕ
greatest passes zero = 0
greatest passes (suc n) = cond (passes (suc n)) (suc n) (greatest passes n)

-- the greatest level that has rows and room
unfoldable pub depth : ProblemParts → ℕ → ℕ
depth p most = greatest (has_room p most) most

-- how many leads a row is from rounds at least: its level, or one more than the depth
unfoldable pub at_least : ProblemParts → ℕ → List ℕ → ℕ
at_least p most row = position_or_len (λ leads. is_listed (level p leads) row) (range_with_len 0 (depth p most + 1))
