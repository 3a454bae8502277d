-- Tests of what a touch is, what a query asks of it, and which rotation is kept. `decided` of the laws ties each to its relation.
use Rattle.std.specs.Prelude.{ℕ, Bool, true, false, not, ◌&&◌, ℤ, pos, int_le, nat_abs, nat_lt, nat_le, nat_eq, List, [], ◌∷◌, ◌++◌, length, take, drop, Option, Some, None}
use Rattle.std.specs.Cmp.Lexicographic.{pointwise, slice_cmp}
use Rattle.std.specs.List.{list_all, range_with_len}
use Rattle.std.specs.Ordering.{nat_cmp, is_lt}
use Rattle.cr_row.specs.Rows.{rounds}
use Rattle.cr_model.specs.declared.query.Com.{Com}
use Rattle.cr_model.specs.declared.query.Count.{Count}
use Rattle.cr_model.specs.declared.query.MethodCount.{MethodCount}
use Rattle.cr_model.specs.Problems.{PatternParts, ProblemParts}
use Rattle.cr_model.specs.Callings.{rows_of, head_of, length_of}
use Rattle.cr_model.specs.Queries.{cap, repeated, leads_marked, leads_lettered, rows_fitting, changes_of_method}
use Rattle.cr_model.specs.Nodes.{part_of}

-- no row stands twice
abbrev pub rows_differ : List (List ℕ) → Bool
rows_differ [] = true
rows_differ (row ∷ rows) = list_all (λ other. not (pointwise nat_eq row other)) rows && rows_differ rows

-- a calling is not empty
abbrev pub has_leads : List ℕ → Bool
has_leads [] = false
has_leads (step ∷ calling) = true

-- it has the problem's steps alone
abbrev pub has_steps : ProblemParts → List ℕ → Bool
has_steps p calling = list_all (λ step. nat_lt step (length p.leads)) calling

-- a true touch
abbrev pub is_true_touch : ProblemParts → List ℕ → Bool
is_true_touch p calling = has_leads calling && (pointwise nat_eq (head_of p calling) (rounds p.stage) && rows_differ (rows_of p calling))

-- within two limits
abbrev pub is_within : ℤ → ℤ → ℕ → Bool
is_within low high number = int_le low (pos number) && int_le (pos number) high

-- within the limits on changes of method, if there are some
abbrev pub meets_com : Option Com → ℕ → Bool
meets_com None number = true
meets_com (Some limits) number = is_within limits.min limits.max number

-- at least the least length
abbrev pub reaches_min : ProblemParts → List ℕ → Bool
reaches_min p calling = int_le p.query.min (pos (length_of p calling))

-- at most the greatest length
abbrev pub within_cap : ProblemParts → List ℕ → Bool
within_cap p calling = nat_le (length_of p calling) (cap p)

-- so many times its part
abbrev pub has_parts : ProblemParts → List ℕ → Bool
has_parts p calling = pointwise nat_eq calling (repeated (nat_abs p.query.parts) (part_of p calling))

-- the leads with a mark are within the limits
abbrev pub meets_count : ProblemParts → List ℕ → Count → Bool
meets_count p calling count = is_within count.min count.max (leads_marked p count.mark calling)

-- the leads of a method are within the limits
abbrev pub meets_method_count : ProblemParts → List ℕ → MethodCount → Bool
meets_method_count p calling count = is_within count.min count.max (leads_lettered p count.letter calling)

-- the rows that fit a pattern are within the limits
abbrev pub meets_pattern : ProblemParts → List ℕ → PatternParts → Bool
meets_pattern p calling pattern = is_within pattern.min pattern.max (rows_fitting pattern.cells (rows_of p calling))

-- the calling meets the query
abbrev pub meets : ProblemParts → List ℕ → Bool
meets p calling =
    reaches_min p calling
    && (within_cap p calling
    && (has_parts p calling
    && (list_all (meets_count p calling) p.query.counts
    && (list_all (meets_method_count p calling) p.query.method_counts
    && (list_all (meets_pattern p calling) p.query.patterns
    && meets_com p.query.com (changes_of_method p calling))))))

-- the calling is wanted
abbrev pub is_wanted : ProblemParts → List ℕ → Bool
is_wanted p calling = has_steps p calling && (is_true_touch p calling && meets p calling)

-- a calling begun k leads later
abbrev pub rotated : ℕ → List ℕ → List ℕ
rotated k calling = drop k calling ++ take k calling

-- wanted, and less than another
abbrev pub is_better : ProblemParts → List ℕ → List ℕ → Bool
is_better p best other = is_wanted p other && is_lt (slice_cmp nat_cmp other best)

-- the calling is kept: wanted, and no rotation of it is wanted and less
abbrev pub is_kept : ProblemParts → List ℕ → Bool
is_kept p calling = is_wanted p calling && list_all (λ k. not (is_better p calling (rotated k calling))) (range_with_len 0 (length calling))
