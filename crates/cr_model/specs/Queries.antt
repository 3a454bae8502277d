-- What a query asks of a touch.
use Rattle.std.specs.Prelude.{◌≡◌, ℕ, zero, suc, ◌+◌, ◌*◌, ◌/◌, ◌≤◌, min, Bool, true, false, cond, ◌&&◌, ℤ, pos, ◌≤ℤ◌, nat_abs, List, [], ◌∷◌, length, drop, flat_map, count_by, nat_eq, All, Option, Some, None}
use Rattle.std.specs.List.{range_with_len, list_any}
use Rattle.cr_model.specs.declared.query.Cell.{Cell}
use Rattle.cr_model.specs.declared.query.Cell.TheVariants as cell
use Rattle.cr_model.specs.declared.query.Com.{Com}
use Rattle.cr_model.specs.Problems.{ProblemParts}
use Rattle.cr_model.specs.Callings.{length_of, rows_of, mark_of, method_of, letter_of}

-- how many rows there are on n bells
unfoldable pub extent : ℕ → ℕ
extent zero = 1
extent (suc n) = suc n * extent n

-- the greatest length of a touch: the query's, and no more than the extent
abbrev pub cap : ProblemParts → ℕ
cap p = min (nat_abs p.query.max) (extent p.stage)

-- the greatest length of a part
abbrev pub part_cap : ProblemParts → ℕ
part_cap p = cap p / nat_abs p.query.parts

-- from the least to the greatest, both allowed
pub record IsWithin (least greatest : ℤ) (number : ℕ) : Type 0 where
  pub at_least : least ≤ℤ pos number
  pub at_most : pos number ≤ℤ greatest

-- so many equal words, one after another
abbrev pub repeated : ℕ → List ℕ → List ℕ
repeated number word = flat_map (λ _. word) (range_with_len 0 number)

-- how many leads have the mark
abbrev pub leads_marked : ProblemParts → ℕ → List ℕ → ℕ
leads_marked p mark calling = count_by (λ step. nat_eq (mark_of p step) mark) calling

-- how many leads are of the method with the letter
abbrev pub leads_lettered : ProblemParts → ℕ → List ℕ → ℕ
leads_lettered p letter calling = count_by (λ step. nat_eq (letter_of p step) letter) calling

-- cells fit a row, read from the first place: a bell fits itself, `Any` fits one bell, `Run` fits any number of
-- bells, none included
abbrev pub fits : List Cell → List ℕ → Bool
fits [] [] = true
fits [] (bell ∷ bells) = false
fits (cell.Bell b ∷ cells) [] = false
fits (cell.Bell b ∷ cells) (bell ∷ bells) = nat_eq b bell && fits cells bells
fits (cell.Any ∷ cells) [] = false
fits (cell.Any ∷ cells) (bell ∷ bells) = fits cells bells
fits (cell.Run ∷ cells) bells =
    list_any (λ number. fits cells (drop number bells)) (range_with_len 0 (length bells + 1))

-- how many rows fit the cells
abbrev pub rows_fitting : List Cell → List (List ℕ) → ℕ
rows_fitting cells rows = count_by (fits cells) rows

-- how often the method changes from one lead to the next
abbrev pub changes_of_method : ProblemParts → List ℕ → ℕ
changes_of_method p [] = 0
changes_of_method p (step ∷ []) = 0
changes_of_method p (step ∷ next ∷ steps) =
    cond (nat_eq (method_of p step) (method_of p next)) 0 1 + changes_of_method p (next ∷ steps)

-- a limit on changes of method, if there is one
abbrev pub MeetsCom : Option Com → ℕ → Type 0
MeetsCom None number = Unit {0}
MeetsCom (Some limits) number = IsWithin limits.min limits.max number

-- a calling meets the query
pub record Meets (p : ProblemParts) (calling : List ℕ) : Type 0 where
  pub long : p.query.min ≤ℤ pos (length_of p calling)
  pub short : length_of p calling ≤ cap p
  pub parts : (word : List ℕ) × (calling ≡ repeated (nat_abs p.query.parts) word)
  pub counts : All (λ count. IsWithin count.min count.max (leads_marked p count.mark calling)) p.query.counts
  pub method_counts :
      All (λ count. IsWithin count.min count.max (leads_lettered p count.letter calling)) p.query.method_counts
  pub patterns :
      All (λ pattern. IsWithin pattern.min pattern.max (rows_fitting pattern.cells (rows_of p calling))) p.query.patterns
  pub «com» : MeetsCom p.query.com (changes_of_method p calling)
