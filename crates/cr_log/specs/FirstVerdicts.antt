-- The first verdict that holds of a node, in the order in which they are looked at: too long, a row again, rounds, too many, too few, turned back, and open where none of these holds. Of items it is counts of marks first, then counts of methods, patterns and changes of method.
use Rattle.std.specs.Prelude.{◌≡◌, ℕ, ◌+◌, Bool, true, false, cond, ◌&&◌, ◌||◌, nat_lt, nat_eq, List, [], ◌∷◌, All, Option, Some, None}
use Rattle.cr_model.specs.Problems.{ProblemParts}
use Rattle.cr_audit.specs.declared.verdict.Item.{Item}
use Rattle.cr_audit.specs.declared.verdict.Item.TheVariants as item
use Rattle.cr_audit.specs.declared.verdict.Verdict.{Verdict}
use Rattle.cr_audit.specs.declared.verdict.Verdict.TheVariants as verdict
use Rattle.cr_audit.specs.Verdicts.{has_too_many, has_too_few, holds_verdict, HoldsVerdict}
use Rattle.cr_audit.specs.Logs.{LineParts, IsLine, AreDue}

-- where an item stands in the order, and its index among those of its kind
abbrev pub item_rank : Item → ℕ
item_rank (item.Count i) = 0
item_rank (item.Leads i) = 1
item_rank (item.Rows i) = 2
item_rank item.Com = 3

abbrev pub item_index : Item → ℕ
item_index (item.Count i) = i
item_index (item.Leads i) = i
item_index (item.Rows i) = i
item_index item.Com = 0

-- where a verdict stands in the order
abbrev pub rank_of : Verdict → ℕ
rank_of verdict.Long = 0
rank_of (verdict.Again i j) = 1
rank_of (verdict.Home i) = 2
rank_of (verdict.Many of) = 3 + item_rank of
rank_of (verdict.Few of) = 7 + item_rank of
rank_of (verdict.Back k) = 11
rank_of verdict.Open = 12

-- its number among those of its kind: of two rows that are equal the place of the second
abbrev pub index_of : Verdict → ℕ
index_of verdict.Long = 0
index_of (verdict.Again i j) = j
index_of (verdict.Home i) = i
index_of (verdict.Many of) = item_index of
index_of (verdict.Few of) = item_index of
index_of (verdict.Back k) = k
index_of verdict.Open = 0

-- by two numbers, the first of which decides where they differ
abbrev pub is_less : ℕ → ℕ → ℕ → ℕ → Bool
is_less rank index other_rank other_index = nat_lt rank other_rank || (nat_eq rank other_rank && nat_lt index other_index)

-- one item, or one verdict, is looked at before another
abbrev pub comes_first : Item → Item → Bool
comes_first one other = is_less (item_rank one) (item_index one) (item_rank other) (item_index other)

abbrev pub comes_before : Verdict → Verdict → Bool
comes_before one other = is_less (rank_of one) (index_of one) (rank_of other) (index_of other)

-- a verdict holds of a node, and none before it in the order holds
pub record IsFirstVerdict (p : ProblemParts) (node : List ℕ) (why : Verdict) : Type 0 where
  pub holds : HoldsVerdict p node why
  pub none : (other : Verdict) → comes_before other why ≡ true → holds_verdict p node other ≡ false

-- the same of a line
abbrev pub IsFirstLine : ProblemParts → LineParts → Type 0
IsFirstLine p line = IsFirstVerdict p line.node line.verdict

-- the lines of a problem's log: one for the root, and one for each node that an open line opens, in their order, each with
-- the first verdict that holds
pub record IsFirstLog (p : ProblemParts) (lines : List LineParts) : Type 0 where
  pub whole : AreDue p ([] ∷ []) lines []
  pub form : All (IsLine p) lines
  pub first : All (IsFirstLine p) lines

-- the least number that passes a test, or none passes
abbrev pub IsLeast : (ℕ → Bool) → Option ℕ → Type 0
IsLeast test (Some k) = (test k ≡ true) × ((j : ℕ) → nat_lt j k ≡ true → test j ≡ false)
IsLeast test None = (j : ℕ) → test j ≡ false

-- the first item that passes a test, or none passes
abbrev pub IsFirstItem : (Item → Bool) → Option Item → Type 0
IsFirstItem test (Some of) = (test of ≡ true) × ((other : Item) → comes_first other of ≡ true → test other ≡ false)
IsFirstItem test None = (other : Item) → test other ≡ false

-- an item has too few, or too many
abbrev pub is_missed : ProblemParts → List ℕ → Bool → Item → Bool
is_missed p node few of = cond few (has_too_few p node of) (has_too_many p node of)
