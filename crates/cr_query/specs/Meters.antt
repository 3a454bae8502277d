-- Meters, as contracts see them: a problem and a node of it. And what is counted of a node.
use Rattle.std.specs.Prelude.{◌≡◌, ℕ, ◌+◌, ◌-◌, ◌*◌, ◌≤◌, Bool, cond, ◌||◌, pos, int_lt, List, [], ◌∷◌, ◌++◌, length, get_or, map, take, nat_eq, Option, Some, None}
use Rattle.std.specs.List.{list_any, range_with_len}
use Rattle.cr_row.specs.Rows.{product}
use Rattle.cr_model.specs.declared.query.Count.{Count}
use Rattle.cr_model.specs.declared.query.MethodCount.{MethodCount}
use Rattle.cr_model.specs.Problems.{PatternParts, ProblemParts}
use Rattle.cr_model.specs.Callings.{shortest, length_of, rows_of, head_of, HasSteps}
use Rattle.cr_model.specs.Dead.{parts_of, leads_left, above_com, below_com}
use Rattle.cr_model.specs.Limits.{most_leads}
use Rattle.cr_model.specs.Queries.{cap, part_cap, leads_marked, leads_lettered, rows_fitting, changes_of_method}
use Rattle.cr_model.specs.Sizes.{child}
use Rattle.cr_model.specs.Sound.{IsSound}
use Rattle.cr_query.specs.declared.kinds.Kind.{Kind}
use Rattle.cr_query.specs.declared.gauges.Gauge.{Gauge}
use Rattle.cr_query.specs.declared.pattern_limits.Fitting.{Fitting}
use Rattle.cr_query.specs.declared.numbers.Numbers.{Numbers}
use Rattle.cr_query.specs.declared.leads.LeadCounts.{LeadCounts}
use Rattle.cr_query.specs.Gauges.{RowGauge, fewest, too_many, AreFew, AreRooms}
use Rattle.cr_query.specs.Kinds.{kind_of}
use Rattle.cr_query.specs.Shapes.{shape_of}
use Rattle.cr_query.specs.Tallies.{gauges_at, fittings_at}

pub record MeterParts : Type 0 where
  pub problem : ProblemParts
  pub node : List ℕ

abbrev pub meter_from : ProblemParts → List ℕ → MeterParts
meter_from p node = record { problem = p; node = node }

-- all but the last step of a node
abbrev pub parent : List ℕ → List ℕ
parent node = take (length node - 1) node

-- what a node has of each item that has limits: leads that each count of marks counts, leads that each count of methods counts, and rows that fit each pattern
abbrev pub item_numbers : ProblemParts → List ℕ → List ℕ
item_numbers p node =
    map (λ count. leads_marked p count.mark node) p.query.counts
    ++ (map (λ count. leads_lettered p count.letter node) p.query.method_counts
    ++ map (λ pattern. rows_fitting pattern.cells (rows_of p node)) p.query.patterns)

-- in all parts it has more leads than a count allows, or changes method too often
abbrev pub has_too_many_leads : ProblemParts → List ℕ → Bool
has_too_many_leads p node =
    list_any (λ count. int_lt count.max (pos (parts_of p * leads_marked p count.mark node))) p.query.counts
    || (list_any (λ count. int_lt count.max (pos (parts_of p * leads_lettered p count.letter node))) p.query.method_counts
    || above_com p.query.com (parts_of p * changes_of_method p node))

-- if all leads that are left were counted, or each of them and each join of parts were a change of method, it would still have too few
abbrev pub has_too_few_leads : ProblemParts → List ℕ → Bool
has_too_few_leads p node =
    list_any (λ count. int_lt (pos (parts_of p * (leads_marked p count.mark node + leads_left p node))) count.min) p.query.counts
    || (list_any (λ count. int_lt (pos (parts_of p * (leads_lettered p count.letter node + leads_left p node))) count.min) p.query.method_counts
    || below_com p.query.com (parts_of p * (changes_of_method p node + leads_left p node) + parts_of p - 1))

-- it has more rows than a pattern allows
abbrev pub has_too_many_rows : ProblemParts → List ℕ → Bool
has_too_many_rows p node =
    list_any (λ pattern. int_lt pattern.max (pos (rows_fitting pattern.cells (rows_of p node)))) p.query.patterns

-- if all rows that are left fitted, it would still have too few
abbrev pub has_too_few_rows : ProblemParts → List ℕ → Bool
has_too_few_rows p node =
    list_any (λ pattern. int_lt (pos (rows_fitting pattern.cells (rows_of p node) + (cap p - length_of p node))) pattern.min) p.query.patterns

-- a node that has too many or too few, told by its leads alone: patterns are not looked at
abbrev pub is_hopeless_by_leads : ProblemParts → List ℕ → Bool
is_hopeless_by_leads p node = has_too_many_leads p node || has_too_few_leads p node

-- the same told by its rows alone: neither counts nor limits on changes of method are looked at
abbrev pub is_hopeless_by_rows : ProblemParts → List ℕ → Bool
is_hopeless_by_rows p node = has_too_many_rows p node || has_too_few_rows p node

-- the gauge of a count in so many parts, and the shape and limits of a pattern, at a number
abbrev pub mark_gauge : ℕ → ℕ → Count → Gauge
mark_gauge parts number count = record { of = count.mark; least = fewest parts count.min; beyond = too_many parts count.max; number = number }

abbrev pub letter_gauge : ℕ → ℕ → MethodCount → Gauge
letter_gauge parts number count = record { of = count.letter; least = fewest parts count.min; beyond = too_many parts count.max; number = number }

abbrev pub fitting_of : ℕ → ℕ → PatternParts → RowGauge
fitting_of stage number pattern = record { shape = shape_of stage pattern.cells; min = pattern.min; max = pattern.max; number = number }

-- the same at a node
abbrev pub marked : ProblemParts → List ℕ → Count → Gauge
marked p node count = mark_gauge (parts_of p) (leads_marked p count.mark node) count

abbrev pub lettered : ProblemParts → List ℕ → MethodCount → Gauge
lettered p node count = letter_gauge (parts_of p) (leads_lettered p count.letter node) count

abbrev pub fitted : ProblemParts → List ℕ → PatternParts → RowGauge
fitted p node pattern = fitting_of p.stage (rows_fitting pattern.cells (rows_of p node)) pattern

-- the kinds of all steps
abbrev pub kinds_of : ProblemParts → List Kind
kinds_of p = map (kind_of p) (range_with_len 0 (length p.leads))

-- one where a step of a method changes the method after a node
abbrev pub change_between : List Kind → List ℕ → ℕ → ℕ
change_between kinds [] method = 0
change_between kinds (step ∷ steps) method =
    cond (nat_eq (get_or (map (λ (kind : Kind). kind.method) kinds) (get_or (step ∷ steps) (length steps) 0) 0) method) 0 1

-- what is found once
pub record HasNumbers (p : ProblemParts) (numbers : Numbers) : Type 0 where
  pub parts : numbers.parts ≡ parts_of p
  pub most : numbers.most ≡ cap p
  pub part_most : numbers.part_most ≡ part_cap p
  pub shortest : numbers.shortest ≡ shortest p
  pub «com» : numbers.com ≡ p.query.com

pub record IsCompiled (p : ProblemParts) (kinds : List Kind) (numbers : Numbers) (rooms : List ℕ) : Type 0 where
  pub sound : IsSound p
  pub steps : kinds ≡ kinds_of p
  pub found : HasNumbers p numbers
  pub table : AreRooms numbers rooms

-- what is counted of the leads of a front of a node
pub record IsCounted (p : ProblemParts) (front : List ℕ) (counts : LeadCounts) : Type 0 where
  pub by_mark : gauges_at (length front) counts.marks.items ≡ map (marked p front) p.query.counts
  pub by_letter : gauges_at (length front) counts.letters.items ≡ map (lettered p front) p.query.method_counts
  pub long : get_or counts.lengths (length front) 0 ≡ length_of p front
  pub changed : get_or counts.changes (length front) 0 ≡ changes_of_method p front

-- and of a node: of each of its fronts
pub record AreCounted (p : ProblemParts) (node : List ℕ) (counts : LeadCounts) : Type 0 where
  pub node_is : counts.steps.items ≡ node
  pub steps : HasSteps p node
  pub few : length node ≤ 1024
  pub fronts : (k : ℕ) → k ≤ length node → IsCounted p (take k node) counts

-- the rows of a front, and of a node
abbrev pub HasFittings : ProblemParts → List ℕ → List Fitting → Type 0
HasFittings p front patterns = fittings_at (length front) patterns ≡ map (fitted p front) p.query.patterns

abbrev pub HaveFittings : ProblemParts → List ℕ → List Fitting → Type 0
HaveFittings p node patterns = (k : ℕ) → k ≤ length node → HasFittings p (take k node) patterns

-- what is counted of the node itself
abbrev pub marks_now : LeadCounts → List Gauge
marks_now counts = gauges_at (length counts.steps.items) counts.marks.items

abbrev pub letters_now : LeadCounts → List Gauge
letters_now counts = gauges_at (length counts.steps.items) counts.letters.items

abbrev pub length_now : LeadCounts → ℕ
length_now counts = get_or counts.lengths (length counts.steps.items) 0

abbrev pub changes_now : LeadCounts → ℕ
changes_now counts = get_or counts.changes (length counts.steps.items) 0

-- bounds on these
pub record AreSmall (counts : LeadCounts) : Type 0 where
  pub few_steps : length counts.steps.items ≤ most_leads
  pub few_marked : AreFew (marks_now counts)
  pub few_lettered : AreFew (letters_now counts)
  pub short : length_now counts ≤ 131072
  pub few_changes : changes_now counts ≤ most_leads

-- how many rows of a lead fit each pattern, where the lead is rung after a node
abbrev pub rows_fitting_after : ProblemParts → List ℕ → ℕ → List ℕ
rows_fitting_after p node step =
    map (λ pattern. rows_fitting pattern.cells (map (product (head_of p node)) (rows_of p (step ∷ [])))) p.query.patterns

-- the node after a move, which adds a step or takes the last one back, and after some moves, one after another
abbrev pub node_after : List ℕ → Option ℕ → List ℕ
node_after node (Some step) = child node step
node_after node None = parent node

abbrev pub node_after_all : List ℕ → List (Option ℕ) → List ℕ
node_after_all node [] = node
node_after_all node (move ∷ moves) = node_after_all (node_after node move) moves

-- what contracts see of a meter after a move, as the calls that add a lead and take one back say, and after some moves
abbrev pub moved : MeterParts → Option ℕ → MeterParts
moved meter move = meter_from meter.problem (node_after meter.node move)

abbrev pub moved_by_all : MeterParts → List (Option ℕ) → MeterParts
moved_by_all meter [] = meter
moved_by_all meter (move ∷ moves) = moved_by_all (moved meter move) moves
