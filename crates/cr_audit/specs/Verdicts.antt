-- The verdicts of a log's lines, and when each of them holds of its node. Places of rows and indexes of items count from 0.
use Rattle.std.specs.Prelude.{◌≡◌, ℕ, ◌+◌, ◌-◌, ◌*◌, Bool, true, ◌&&◌, ◌||◌, pos, int_lt, nat_lt, nat_le, nat_eq, List, [], length, get_or, take, drop}
use Rattle.std.specs.Cmp.Lexicographic.{pointwise, slice_cmp}
use Rattle.std.specs.Ordering.{nat_cmp, is_lt}
use Rattle.cr_row.specs.Rows.{rounds}
use Rattle.cr_model.specs.Problems.{ProblemParts}
use Rattle.cr_model.specs.Callings.{rows_of, length_of}
use Rattle.cr_model.specs.Queries.{cap, part_cap, leads_marked, leads_lettered, rows_fitting, changes_of_method}
use Rattle.cr_model.specs.Right.{count_at, method_count_at, pattern_at}
use Rattle.cr_model.specs.Decided.{has_steps}
use Rattle.cr_model.specs.Dead.{parts_of, leads_left, is_long, above_com, below_com, turn_free}
use Rattle.cr_audit.specs.declared.verdict.Item.{Item}
use Rattle.cr_audit.specs.declared.verdict.Item.TheVariants as item
use Rattle.cr_audit.specs.declared.verdict.Verdict.{Verdict}
use Rattle.cr_audit.specs.declared.verdict.Verdict.TheVariants as verdict

-- the node is valid: its steps exist, and it is no longer than a part may be
abbrev pub is_valid : ProblemParts → List ℕ → Bool
is_valid p node = has_steps p node && nat_le (length_of p node) (part_cap p)

-- the row at a place of a node's rows
abbrev pub row_at : ProblemParts → List ℕ → ℕ → List ℕ
row_at p node i = get_or (rows_of p node) i []

-- its rows at two places, the first before the second, are equal
abbrev pub is_again_at : ProblemParts → List ℕ → ℕ → ℕ → Bool
is_again_at p node i j =
    nat_lt i j && (nat_lt j (length_of p node) && pointwise nat_eq (row_at p node i) (row_at p node j))

-- its row at a place is rounds, and it is not its last row, or there are several parts
abbrev pub is_round_at : ProblemParts → List ℕ → ℕ → Bool
is_round_at p node i =
    nat_lt i (length_of p node)
    && (pointwise nat_eq (row_at p node i) (rounds p.stage)
    && (nat_lt (i + 1) (length_of p node) || nat_lt 1 (parts_of p)))

-- an item of the query has too many in the node: in all parts more leads than a count or a method count allows, or
-- more rows than a pattern allows, or in all parts more changes of method than the limit allows
abbrev pub has_too_many : ProblemParts → List ℕ → Item → Bool
has_too_many p node (item.Count i) =
    nat_lt i (length p.query.counts)
    && int_lt (count_at p.query.counts i).max (pos (parts_of p * leads_marked p (count_at p.query.counts i).mark node))
has_too_many p node (item.Leads i) =
    nat_lt i (length p.query.method_counts)
    && int_lt (method_count_at p.query.method_counts i).max (pos (parts_of p * leads_lettered p (method_count_at p.query.method_counts i).letter node))
has_too_many p node (item.Rows i) =
    nat_lt i (length p.query.patterns)
    && int_lt (pattern_at p.query.patterns i).max (pos (rows_fitting (pattern_at p.query.patterns i).cells (rows_of p node)))
has_too_many p node item.Com = above_com p.query.com (parts_of p * changes_of_method p node)

-- an item of the query has too few, and would have too few if all leads that are left in the part were counted, or if
-- all rows that are left of the touch fitted, or if each of those leads and each join of parts were a change of method
abbrev pub has_too_few : ProblemParts → List ℕ → Item → Bool
has_too_few p node (item.Count i) =
    nat_lt i (length p.query.counts)
    && int_lt (pos (parts_of p * (leads_marked p (count_at p.query.counts i).mark node + leads_left p node))) (count_at p.query.counts i).min
has_too_few p node (item.Leads i) =
    nat_lt i (length p.query.method_counts)
    && int_lt (pos (parts_of p * (leads_lettered p (method_count_at p.query.method_counts i).letter node + leads_left p node))) (method_count_at p.query.method_counts i).min
has_too_few p node (item.Rows i) =
    nat_lt i (length p.query.patterns)
    && int_lt (pos (rows_fitting (pattern_at p.query.patterns i).cells (rows_of p node) + (cap p - length_of p node))) (pattern_at p.query.patterns i).min
has_too_few p node item.Com = below_com p.query.com (parts_of p * (changes_of_method p node + leads_left p node) + parts_of p - 1)

-- no pattern and no limit on changes of method is asked for, and the steps from the k-th on, which is neither the first nor
-- past the last, are less than as many steps at the beginning
abbrev pub turns_back_at : ProblemParts → List ℕ → ℕ → Bool
turns_back_at p node k =
    turn_free p.query
    && (nat_lt 0 k && (nat_lt k (length node) && is_lt (slice_cmp nat_cmp (drop k node) (take (length node - k) node))))

-- a verdict holds of a node
abbrev pub holds_verdict : ProblemParts → List ℕ → Verdict → Bool
holds_verdict p node verdict.Open = is_valid p node
holds_verdict p node verdict.Long = is_long p node
holds_verdict p node (verdict.Again i j) = is_again_at p node i j
holds_verdict p node (verdict.Home i) = is_round_at p node i
holds_verdict p node (verdict.Many of) = is_valid p node && has_too_many p node of
holds_verdict p node (verdict.Few of) = is_valid p node && has_too_few p node of
holds_verdict p node (verdict.Back k) = turns_back_at p node k

abbrev pub HoldsVerdict : ProblemParts → List ℕ → Verdict → Type 0
HoldsVerdict p node why = holds_verdict p node why ≡ true
