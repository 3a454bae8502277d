-- The reasons why no kept touch has a node above it, in the order in which they are looked at. A node here is not empty.
use Rattle.std.specs.Prelude.{◌≡◌, ℕ, ◌+◌, ◌-◌, ◌*◌, ◌/◌, Bool, true, false, not, ◌&&◌, ◌||◌, pos, int_lt, nat_abs, nat_lt, nat_eq, List, [], ◌∷◌, ◌++◌, All, length, drop, take, find, Option, Some, None, is_none}
use Rattle.std.specs.Cmp.Lexicographic.{pointwise, slice_cmp}
use Rattle.std.specs.List.{list_any, range_with_len}
use Rattle.std.specs.Ordering.{nat_cmp, is_lt}
use Rattle.cr_row.specs.Rows.{rounds}
use Rattle.cr_model.specs.declared.query.Com.{Com}
use Rattle.cr_model.specs.declared.reason.Reason.{Reason}
use Rattle.cr_model.specs.declared.reason.Reason.TheVariants as reason
use Rattle.cr_model.specs.Problems.{QueryParts, ProblemParts}
use Rattle.cr_model.specs.Callings.{shortest, rows_of, length_of, head_of}
use Rattle.cr_model.specs.Queries.{cap, part_cap, leads_marked, leads_lettered, rows_fitting, changes_of_method}
use Rattle.cr_model.specs.Touches.{Kept}
use Rattle.cr_model.specs.Nodes.{IsAbove}
use Rattle.cr_model.specs.Decided.{rows_differ}
use Rattle.cr_model.specs.Levels.{at_least}

-- no kept touch has the node above it
abbrev pub HasNoneBelow : ProblemParts → List ℕ → Type 0
HasNoneBelow p node = (calling : List ℕ) → Kept p calling → IsAbove p node calling → ⊥

-- the number of parts
abbrev pub parts_of : ProblemParts → ℕ
parts_of p = nat_abs p.query.parts

-- the changes that are left in a part, and how many leads they can hold at most
abbrev pub remaining_of : ProblemParts → List ℕ → ℕ
remaining_of p node = part_cap p - length_of p node

abbrev pub leads_left : ProblemParts → List ℕ → ℕ
leads_left p node = remaining_of p node / shortest p

-- Long: it is longer than a part may be
abbrev pub is_long : ProblemParts → List ℕ → Bool
is_long p node = nat_lt (part_cap p) (length_of p node)

-- SelfFalse: its last lead has a row twice
abbrev pub is_self_false : ProblemParts → List ℕ → Bool
is_self_false p node = not (rows_differ (rows_of p (drop (length node - 1) node)))

-- Again: it has a row twice
abbrev pub is_again : ProblemParts → List ℕ → Bool
is_again p node = not (rows_differ (rows_of p node))

-- rounds is one of some rows
abbrev pub has_rounds : ProblemParts → List (List ℕ) → Bool
has_rounds p rows = list_any (pointwise nat_eq (rounds p.stage)) rows

-- Home: rounds stands in its rows before the last place, or stands last and there are several parts
abbrev pub is_round : ProblemParts → List ℕ → Bool
is_round p node =
    has_rounds p (take (length (rows_of p node) - 1) (rows_of p node))
    || (has_rounds p (drop (length (rows_of p node) - 1) (rows_of p node)) && nat_lt 1 (parts_of p))

-- Far: with as many of the shortest leads as lead to rounds at least, it is longer than a touch may be
abbrev pub is_far : ProblemParts → ℕ → List ℕ → Bool
is_far p most node = nat_lt (cap p) (length_of p node + shortest p * at_least p most (head_of p node))

-- a number is above the greatest, or below the least, of the limits on changes of method, if there are some
abbrev pub above_com : Option Com → ℕ → Bool
above_com None number = false
above_com (Some limits) number = int_lt limits.max (pos number)

abbrev pub below_com : Option Com → ℕ → Bool
below_com None number = false
below_com (Some limits) number = int_lt (pos number) limits.min

-- TooMany: in all parts it has more leads than a count allows, or it has more rows than a pattern allows, or in all parts it changes method too often
abbrev pub is_too_many : ProblemParts → List ℕ → Bool
is_too_many p node =
    list_any (λ count. int_lt count.max (pos (parts_of p * leads_marked p count.mark node))) p.query.counts
    || (list_any (λ count. int_lt count.max (pos (parts_of p * leads_lettered p count.letter node))) p.query.method_counts
    || (list_any (λ pattern. int_lt pattern.max (pos (rows_fitting pattern.cells (rows_of p node)))) p.query.patterns
    || above_com p.query.com (parts_of p * changes_of_method p node)))

-- TooFew: if all leads that are left were counted, or all rows fitted, or each of those leads and each join of parts were a change of method, it would still have too few
abbrev pub is_too_few : ProblemParts → List ℕ → Bool
is_too_few p node =
    list_any (λ count. int_lt (pos (parts_of p * (leads_marked p count.mark node + leads_left p node))) count.min) p.query.counts
    || (list_any (λ count. int_lt (pos (parts_of p * (leads_lettered p count.letter node + leads_left p node))) count.min) p.query.method_counts
    || (list_any (λ pattern. int_lt (pos (rows_fitting pattern.cells (rows_of p node) + (cap p - length_of p node))) pattern.min) p.query.patterns
    || below_com p.query.com (parts_of p * (changes_of_method p node + leads_left p node) + parts_of p - 1)))

-- a word turns back: some proper suffix of it, not empty, is less than the prefix of the same length
abbrev pub turns_back : List ℕ → Bool
turns_back word = list_any (λ k. is_lt (slice_cmp nat_cmp (drop k word) (take (length word - k) word))) (range_with_len 1 (length word - 1))

-- a query without patterns and without limits on changes of method: all rotations of a calling meet it, or none
abbrev pub turn_free : QueryParts → Bool
turn_free query = nat_eq (length query.patterns) 0 && is_none query.com

-- TurnsBack: the query is the same for all rotations, and the node turns back
abbrev pub is_turned_back : ProblemParts → List ℕ → Bool
is_turned_back p node = turn_free p.query && turns_back node

-- a reason holds of a node, where a listing of levels has at most so many rows
abbrev pub holds : ProblemParts → ℕ → List ℕ → Reason → Bool
holds p most node reason.Long = is_long p node
holds p most node reason.SelfFalse = is_self_false p node
holds p most node reason.Again = is_again p node
holds p most node reason.Home = is_round p node
holds p most node reason.Far = is_far p most node
holds p most node reason.TooMany = is_too_many p node
holds p most node reason.TooFew = is_too_few p node
holds p most node reason.TurnsBack = is_turned_back p node

-- the reasons, in their order
abbrev pub reasons : List Reason
reasons = reason.Long ∷ reason.SelfFalse ∷ reason.Again ∷ reason.Home ∷ reason.Far ∷ reason.TooMany ∷ reason.TooFew ∷ reason.TurnsBack ∷ []

-- the first that holds, or none
unfoldable pub dead : ProblemParts → ℕ → List ℕ → Option Reason
dead p most node = find (holds p most node) reasons

-- a reason holds, and none before it in their order
pub record IsFirstReason (p : ProblemParts) (most : ℕ) (node : List ℕ) (first : Reason) : Type 0 where
  pub before : List Reason
  pub others : List Reason
  pub place : reasons ≡ before ++ first ∷ others
  pub none : All (λ earlier. holds p most node earlier ≡ false) before
  pub is : holds p most node first ≡ true
