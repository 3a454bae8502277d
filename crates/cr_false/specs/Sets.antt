-- Falseness between leads: the rows between two heads from which two leads share a row.
use Rattle.std.specs.Prelude.{◌≡◌, ◌↔◌, ◌⊎◌, ℕ, ◌*◌, ◌/◌, ◌%◌, ◌<◌, ◌≤◌, Bool, List, [], length, get_or, sum, Contains, IsTrue}
use Rattle.std.specs.List.{AllZip, range_with_len}
use Rattle.std.proofs.Common.{◌∙◌}
use Rattle.std.proofs.lemmas.Slice.Zip.{AllZip-long}
use Rattle.std.proofs.lemmas.List.FromFn.{length-range_with_len}
use Rattle.cr_row.specs.Rows.{product}
use Rattle.cr_leads.specs.Tables.{TableParts, lead_rows, AreRows}
use Rattle.cr_rowset.specs.Stacks.{StackParts, AllDiffer}

-- a row times one lead's row s is another's row r: it is r·s⁻¹
pub record IsFalse (rows others : List (List ℕ)) (between : List ℕ) : Type 0 where
  pub first : List ℕ
  pub second : List ℕ
  pub has_first : Contains rows first
  pub has_second : Contains others second
  pub same_length : length between ≡ length second
  pub is : product between second ≡ first

-- two lists have a row in common
pub record ShareARow (rows others : List (List ℕ)) : Type 0 where
  pub shared : List ℕ
  pub has_first : Contains rows shared
  pub has_second : Contains others shared

-- a row stands at two places
pub record HasTwice (rows : List (List ℕ)) : Type 0 where
  pub first : ℕ
  pub second : ℕ
  pub before : first < second
  pub within : second < length rows
  pub same : get_or rows first [] ≡ get_or rows second []

-- some rows are those of a set, each once
pub record IsSetOf (member : List ℕ → Type 0) (rows : List (List ℕ)) : Type 0 where
  pub differ : AllDiffer rows
  pub all : (g : List ℕ) → Contains rows g ↔ member g

-- there is room for a set: no list of different members is longer
pub record IsRoomFor (member : List ℕ → Type 0) (room : ℕ) : Type 0 where
  pub enough : (rows : List (List ℕ)) → AllDiffer rows → ((g : List ℕ) → Contains rows g → member g) → length rows ≤ room

-- a set has so many rows
pub record HasNumber (member : List ℕ → Type 0) (number : ℕ) : Type 0 where
  pub rows : List (List ℕ)
  pub is : IsSetOf member rows
  pub counted : length rows ≡ number

-- the ordered pairs of steps by their numbers: the pair (a, b) is 24 a + b. There are at most 24 steps, and where b
-- is none of them its pairs have no rows
abbrev pub pairs : TableParts → List ℕ
pairs table = range_with_len 0 (24 * length table.leads)

-- a row is false of a pair
abbrev pub IsFalsePair : TableParts → ℕ → List ℕ → Type 0
IsFalsePair table pair = IsFalse (lead_rows table (pair / 24)) (lead_rows table (pair % 24))

-- so many rows are false of the pairs, in all
pub record IsWholeNumber (table : TableParts) (number : ℕ) : Type 0 where
  pub numbers : List ℕ
  pub each : AllZip (λ pair n. HasNumber (IsFalsePair table pair) n) (pairs table) numbers
  pub total : number ≡ sum numbers

-- what a falseness table is seen as: the stage, the set of each pair, and of each step whether it has a row twice
pub record FalseParts : Type 0 where
  pub stage : ℕ
  pub sets : List (List (List ℕ))
  pub twice : List Bool

abbrev pub TellsTwice : TableParts → ℕ → Bool → Type 0
TellsTwice table step twice = IsTrue twice ↔ HasTwice (lead_rows table step)

-- it is the falseness table of some leads
pub record IsFalseTable (table : TableParts) (parts : FalseParts) : Type 0 where
  pub same_stage : parts.stage ≡ table.stage
  pub sets_are : AllZip (λ pair set. IsSetOf (IsFalsePair table pair) set) (pairs table) parts.sets
  pub twice_is : AllZip (TellsTwice table) (range_with_len 0 (length table.leads)) parts.twice

-- a falseness table has as many steps as its leads
pub steps_counted : (table : TableParts) (parts : FalseParts) → IsFalseTable table parts → length parts.twice ≡ length table.leads
steps_counted table parts is =
    AllZip-long (TellsTwice table) (range_with_len 0 (length table.leads)) parts.twice is.twice_is ∙ length-range_with_len 0 (length table.leads)

-- what the fields of a falseness table keep
pub record AreKept (sets : List StackParts) (twice : List Bool) : Type 0 where
  pub counted : length sets ≡ 24 * length twice
  pub few : length twice ≤ 24

-- some rows more stand in a set, which has each once
pub record Adds (old more new : List (List ℕ)) : Type 0 where
  pub differ : AllDiffer old → AllDiffer new
  pub all : (g : List ℕ) → Contains new g ↔ (Contains old g ⊎ Contains more g)

-- rows of one stage, whichever
pub record AreAlike (rows others : List (List ℕ)) : Type 0 where
  pub stage : ℕ
  pub rows_are : AreRows stage rows
  pub others_are : AreRows stage others
