-- What a meter keeps of its node, with one lead more, and with one fewer.
use Rattle.std.proofs.Common.{◌≡◌, ℕ, zero, suc, ◌+◌, ◌-◌, ◌*◌, ◌<◌, ◌≤◌, ◌↔◌, Bool, true, false, cond, ◌||◌, List, [], ◌∷◌, ◌++◌, length, get_or, map, take, drop, flat_map, sum_by, All, nat_eq, sym, ap, ap₂, ◌∙◌, subst, arith, length-append, length-take, append-nil}
use Rattle.std.specs.List.{range_with_len}
use Rattle.std.proofs.lemmas.List.{length-map, get_or-map, take_all, drop_all}
use Rattle.std.proofs.Math.Nat.{suc-mul}
use Rattle.std.proofs.lemmas.List.Elements.{All-append, All-nil, All-cons, All-map, All-take, All-from_get_or, All-weaker}
use Rattle.std.proofs.lemmas.List.FromFn.{length-range_with_len, length-map-range_with_len}
use Rattle.std.proofs.lemmas.List.Sums.{sum_by-le, sum_by-append, count_by-le-length}
use Rattle.cr_row.specs.Rows.{IsRow, rounds, product}
use Rattle.cr_leads.specs.Tables.{TableParts, lead_table, IsLead}
use Rattle.cr_model.specs.declared.query.Count.{Count}
use Rattle.cr_model.specs.declared.query.MethodCount.{MethodCount}
use Rattle.cr_model.specs.Problems.{PatternParts, ProblemParts}
use Rattle.cr_model.specs.Callings.{mark_of, method_of, letter_of, lead_length, changes_of, changes_of_all, rows_of, length_of, head_of, HasSteps}
use Rattle.cr_model.specs.Dead.{parts_of}
use Rattle.cr_model.specs.OneTurn.{touch_of}
use Rattle.cr_model.specs.Queries.{IsWithin, fits, leads_marked, leads_lettered, rows_fitting, changes_of_method}
use Rattle.cr_model.specs.Right.{FitsStage}
use Rattle.cr_model.specs.Sizes.{child}
use Rattle.cr_model.specs.Sound.{IsSound, sound_leads, sound_patterns}
use Rattle.cr_model.proofs.Measured.{lead_few, length_by_leads}
use Rattle.cr_model.proofs.Below.{rows_counted}
use Rattle.cr_query.specs.declared.gauges.Gauge.{Gauge}
use Rattle.cr_query.specs.declared.pattern_limits.Fitting.{Fitting}
use Rattle.cr_query.specs.declared.kinds.Kind.{Kind}
use Rattle.cr_query.specs.declared.leads.LeadCounts.{LeadCounts}
use Rattle.cr_query.specs.declared.numbers.Numbers.{Numbers}
use Rattle.cr_query.specs.Fronts.{counted_on}
use Rattle.cr_query.specs.Gauges.{RowGauge, raised, rows_more, counted_more, hopeless_with, room_left, IsIn, HasFewRows}
use Rattle.cr_query.specs.Kinds.{kind_of}
use Rattle.cr_query.specs.Meeting.{MeetsCounts, MeetsMethodCounts}
use Rattle.cr_query.specs.Meters.{parent, mark_gauge, letter_gauge, fitting_of, marked, lettered, fitted, kinds_of, change_between, rows_fitting_after, HasNumbers, IsCounted, AreCounted, HasFittings, HaveFittings, AreSmall, is_hopeless_by_leads}
use Rattle.cr_query.specs.Tallies.{gauges_at, tallied, fitting_at, fittings_at, lead_on, all_on}
use Rattle.cr_query.proofs.Raising.{marks_raised, letters_raised, patterns_raised, counted_raised, changes_pushed}
use Rattle.cr_query.proofs.Moves.{fronts_more, fronts_fewer}
use Rattle.cr_query.proofs.Stacks.{counted_now, counted_before, tallied_now, tallied_before, lead_now, lead_before, all_now, all_before, of_each}
use Rattle.cr_query.proofs.Shares.{within_is}
use Rattle.cr_query.proofs.Told.{many_told, few_told, out_told, room_is}

-- numbers of a node
few_changed : (p : ProblemParts) (node : List ℕ) → changes_of_method p node ≤ length node
few_changed p [] = omega arith
few_changed p (first ∷ []) = omega arith
few_changed p (first ∷ second ∷ node) =
    let rest = few_changed p (second ∷ node) in
    let one = at_most_one (nat_eq (method_of p first) (method_of p second)) in
    omega (arith, rest, one)
  where
    at_most_one : (b : Bool) → cond {A = ℕ} b 0 1 ≤ 1
    at_most_one true = omega arith
    at_most_one false = omega arith

short_node : (p : ProblemParts) (node : List ℕ) → IsSound p → HasSteps p node → length_of p node ≤ length node * 128
short_node p node sound known =
    let bound = sum_by-le (λ step. lead_length p step) 128 node (All-weaker (λ step. step < length p.leads) (λ step. lead_length p step ≤ 128) (λ step inside. lead_few p.stage (length p.letters) p.leads (sound_leads p sound) step inside) node known) in
    omega (arith, bound, length_by_leads p node)

-- what is counted of the front that is the node itself
pub whole : (p : ProblemParts) (node : List ℕ) (counts : LeadCounts) → AreCounted p node counts → IsCounted p node counts
whole p node counts counted = subst (λ n. IsCounted p n counts) (take_all (length node) node (omega arith)) (counted.fronts (length node) (omega arith))

pub whole_rows : (p : ProblemParts) (node : List ℕ) (patterns : List Fitting) → HaveFittings p node patterns → HasFittings p node patterns
whole_rows p node patterns fitting = subst (λ n. HasFittings p n patterns) (take_all (length node) node (omega arith)) (fitting (length node) (omega arith))

pub small_counts : (p : ProblemParts) (counts : LeadCounts) → IsSound p → AreCounted p counts.steps.items counts → AreSmall counts
small_counts p counts sound counted =
    let node = counts.steps.items in
    let here = whole p node counts counted in
    let short = short_node p node sound counted.steps in
    record {
      few_steps = counted.few;
      few_marked = subst (All (λ (gauge : Gauge). gauge.number ≤ 1024)) (sym here.by_mark)
          (All-map (λ (gauge : Gauge). gauge.number ≤ 1024) (marked p node) p.query.counts
          (λ k d inside. omega (arith, counted.few, count_by-le-length (λ step. nat_eq (mark_of p step) (get_or p.query.counts k d).mark) node)));
      few_lettered = subst (All (λ (gauge : Gauge). gauge.number ≤ 1024)) (sym here.by_letter)
          (All-map (λ (gauge : Gauge). gauge.number ≤ 1024) (lettered p node) p.query.method_counts
          (λ k d inside. omega (arith, counted.few, count_by-le-length (λ step. nat_eq (letter_of p step) (get_or p.query.method_counts k d).letter) node)));
      short = omega (arith, counted.few, here.long, short);
      few_changes = omega (arith, counted.few, here.changed, few_changed p node);
    }

pub few_rows : (p : ProblemParts) (node : List ℕ) (patterns : List Fitting) → IsSound p → HasSteps p node → length node ≤ 1024 → HasFittings p node patterns
    → HasFewRows (fittings_at (length node) patterns)
few_rows p node patterns sound known few fitting =
    let short = short_node p node sound known in
    subst (All (λ (gauge : RowGauge). gauge.number ≤ 1048576)) (sym fitting)
    (All-map (λ (gauge : RowGauge). gauge.number ≤ 1048576) (fitted p node) p.query.patterns
    (λ k d inside. omega (arith, few, short, rows_counted (rounds p.stage) (changes_of_all p node), count_by-le-length (fits (get_or p.query.patterns k d).cells) (rows_of p node))))

-- the cells of each pattern fit the stage
pub all_fit : (p : ProblemParts) → IsSound p → All (λ (pattern : PatternParts). FitsStage p.stage pattern.cells) p.query.patterns
all_fit p sound = All-from_get_or (λ (pattern : PatternParts). FitsStage p.stage pattern.cells) p.query.patterns _
    (λ i inside. (sound_patterns p sound i inside).cells.size)

-- as many kinds as steps
pub kinds_counted : (p : ProblemParts) (kinds : List Kind) → kinds ≡ kinds_of p → length kinds ≡ length p.leads
kinds_counted p kinds is = ap length is ∙ length-map-range_with_len (kind_of p) 0 (length p.leads)

-- each step of a node has a kind
pub known_kinds : (p : ProblemParts) (kinds : List Kind) (node : List ℕ) → kinds ≡ kinds_of p → HasSteps p node → All (λ step. step < length kinds) node
known_kinds p kinds node are known =
    All-weaker (λ step. step < length p.leads) (λ step. step < length kinds) (λ step inside. omega (arith, inside, kinds_counted p kinds are)) node known

-- lengths of callings joined
abbrev pub LengthsAdd : Type 0
LengthsAdd = (p : ProblemParts) (calling more : List ℕ) → length_of p (calling ++ more) ≡ length_of p calling + length_of p more

pub longer : LengthsAdd → (p : ProblemParts) (node : List ℕ) (step : ℕ) → length_of p (child node step) ≡ length_of p node + lead_length p step
longer lengths p node step = lengths p node (step ∷ []) ∙ ap (λ n. length_of p node + n) (ap length (append-nil (changes_of p step)))

-- a node with a lead more
module _ (p : ProblemParts) (node : List ℕ) (kinds : List Kind) (counts : LeadCounts) (step : ℕ) (kind : Kind) (change : ℕ)
    (lengths : LengthsAdd) (kinds_are : kinds ≡ kinds_of p) (kind_is : kind ≡ kind_of p step) (change_is : change ≡ change_between kinds node kind.method)
    (known : HasSteps p node) (counted : IsCounted p node counts) where
  mark_raised : map (raised kind.mark) (gauges_at (length node) counts.marks.items) ≡ map (marked p (child node step)) p.query.counts
  mark_raised = ap₂ (λ m l. map (raised m) l) (ap (λ (k : Kind). k.mark) kind_is) counted.by_mark ∙ marks_raised p node step p.query.counts

  letter_raised : map (raised kind.letter) (gauges_at (length node) counts.letters.items) ≡ map (lettered p (child node step)) p.query.method_counts
  letter_raised = ap₂ (λ m l. map (raised m) l) (ap (λ (k : Kind). k.letter) kind_is) counted.by_letter ∙ letters_raised p node step p.query.method_counts

  change_raised : get_or counts.changes (length node) 0 + change ≡ changes_of_method p (child node step)
  change_raised =
      ap₂ (λ n m. n + m) counted.changed (change_is ∙ ap (λ (k : Kind). change_between kinds node k.method) kind_is)
      ∙ sym (changes_pushed p kinds node step kinds_are known)

  length_raised : get_or counts.lengths (length node) 0 + kind.length ≡ length_of p (child node step)
  length_raised = ap₂ (λ n m. n + m) counted.long (ap (λ (k : Kind). k.length) kind_is) ∙ sym (longer lengths p node step)

  -- it is hopeless by its leads where the gauges tell so
  pub hopeless_told : 1 ≤ parts_of p → (numbers : Numbers) → HasNumbers p numbers → (left : ℕ) → left ≡ room_left numbers (get_or counts.lengths (length node) 0 + kind.length)
      → hopeless_with numbers (gauges_at (length node) counts.marks.items) (gauges_at (length node) counts.letters.items) kind (get_or counts.changes (length node) 0 + change) left
      ≡ is_hopeless_by_leads p (child node step)
  hopeless_told some numbers found left left_is =
      out_told numbers (gauges_at (length node) counts.marks.items) (gauges_at (length node) counts.letters.items) kind (get_or counts.changes (length node) 0 + change) left
      ∙ ap₂ (λ a b. a || b)
      (many_told p (child node step) numbers _ _ (get_or counts.changes (length node) 0 + change) some found mark_raised letter_raised change_raised)
      (few_told p (child node step) numbers _ _ (get_or counts.changes (length node) 0 + change) some found mark_raised letter_raised change_raised left
      (left_is ∙ room_is p (child node step) numbers (get_or counts.lengths (length node) 0 + kind.length) found length_raised))

  -- what is counted of it
  module _ (after : LeadCounts)
      (marks_are : after.marks.items ≡ map (tallied (length node) kind.mark) counts.marks.items)
      (letters_are : after.letters.items ≡ map (tallied (length node) kind.letter) counts.letters.items)
      (lengths_are : after.lengths ≡ counted_on (length node) kind.length counts.lengths)
      (changes_are : after.changes ≡ counted_on (length node) change counts.changes) where
    child_counted : IsCounted p (child node step) after
    child_counted =
        let long : length (child node step) ≡ length node + 1 = omega (arith, length-append node (step ∷ [])) in
        record {
          by_mark = ap₂ (λ n l. gauges_at n l) long marks_are ∙ tallied_now (length node) kind.mark counts.marks.items ∙ mark_raised;
          by_letter = ap₂ (λ n l. gauges_at n l) long letters_are ∙ tallied_now (length node) kind.letter counts.letters.items ∙ letter_raised;
          long = ap₂ (λ n l. get_or l n 0) long lengths_are ∙ counted_now (length node) kind.length counts.lengths ∙ length_raised;
          changed = ap₂ (λ n l. get_or l n 0) long changes_are ∙ counted_now (length node) change counts.changes ∙ change_raised;
        }

    front_stays : (front : List ℕ) → length front ≤ length node → IsCounted p front counts → IsCounted p front after
    front_stays front low before = record {
      by_mark = ap (gauges_at (length front)) marks_are ∙ tallied_before (length node) kind.mark (length front) counts.marks.items low ∙ before.by_mark;
      by_letter = ap (gauges_at (length front)) letters_are ∙ tallied_before (length node) kind.letter (length front) counts.letters.items low ∙ before.by_letter;
      long = ap (λ l. get_or l (length front) 0) lengths_are ∙ counted_before (length node) kind.length (length front) counts.lengths low ∙ before.long;
      changed = ap (λ l. get_or l (length front) 0) changes_are ∙ counted_before (length node) change (length front) counts.changes low ∙ before.changed;
    }

    pub one_more : AreCounted p node counts → step < length p.leads → length node < 1024 → after.steps.items ≡ counts.steps.items ++ step ∷ [] → AreCounted p (child node step) after
    one_more all inside room steps_are = record {
      node_is = steps_are ∙ ap (λ steps. steps ++ step ∷ []) all.node_is;
      steps = All-append (λ s. s < length p.leads) node (step ∷ []) known (All-cons (λ s. s < length p.leads) step [] inside (All-nil (λ s. s < length p.leads)));
      few = omega (arith, room, length-append node (step ∷ []));
      fronts = fronts_more (λ front. IsCounted p front after) node step
          (λ k low. front_stays (take k node) (omega (arith, low, length-take k node)) (all.fronts k low)) child_counted;
    }

-- and with one fewer: all that is counted of the fronts stays
pub one_fewer : (p : ProblemParts) (node : List ℕ) (counts after : LeadCounts) → AreCounted p node counts → after.steps.items ≡ parent counts.steps.items
    → after.marks.items ≡ counts.marks.items → after.letters.items ≡ counts.letters.items → after.lengths ≡ counts.lengths → after.changes ≡ counts.changes
    → AreCounted p (parent node) after
one_fewer p node counts after counted steps_are marks_are letters_are lengths_are changes_are = record {
  node_is = steps_are ∙ ap parent counted.node_is;
  steps = All-take (λ s. s < length p.leads) (length node - 1) node counted.steps;
  few = omega (arith, counted.few, length-take (length node - 1) node);
  fronts = λ k low.
      let before = fronts_fewer (λ front. IsCounted p front counts) node counted.fronts k low in
      record {
        by_mark = ap (gauges_at (length (take k (parent node)))) marks_are ∙ before.by_mark;
        by_letter = ap (gauges_at (length (take k (parent node)))) letters_are ∙ before.by_letter;
        long = ap (λ l. get_or l (length (take k (parent node))) 0) lengths_are ∙ before.long;
        changed = ap (λ l. get_or l (length (take k (parent node))) 0) changes_are ∙ before.changed;
      };
}

-- a head is as long as the stage
abbrev pub HeadsMultiply : Type 0
HeadsMultiply = (p : ProblemParts) (calling more : List ℕ) → head_of p (calling ++ more) ≡ product (head_of p calling) (head_of p more)

pub head_long : HeadsMultiply → (p : ProblemParts) (node : List ℕ) → length (head_of p node) ≡ p.stage
head_long heads p node =
    ap (λ calling. length (head_of p calling)) (sym (append-nil node))
    ∙ ap length (heads p node [])
    ∙ length-map (rounds p.stage) (λ b. get_or (head_of p node) (b - 1) 0)
    ∙ length-range_with_len 1 p.stage

-- the shapes of a meter's patterns are of the head's stage
pub shapes_staged : (p : ProblemParts) (node head : List ℕ) (patterns : List Fitting) → HaveFittings p node patterns → length head ≡ p.stage
    → All (λ (fitting : Fitting). fitting.shape.stage ≡ length head) patterns
shapes_staged p node head patterns fitting long =
    of_each (λ (gauge : RowGauge). gauge.shape.stage ≡ length head) (fitting_at (length node)) patterns
    (subst (All (λ (gauge : RowGauge). gauge.shape.stage ≡ length head)) (sym (whole_rows p node patterns fitting))
    (All-map (λ (gauge : RowGauge). gauge.shape.stage ≡ length head) (fitted p node) p.query.patterns (λ k d inside. sym long)))

-- and the rows of a lead
pub lead_staged : (p : ProblemParts) (head : List ℕ) (table : TableParts) (lead : List (List ℕ)) → table ≡ lead_table p → IsLead table.stage lead → length head ≡ p.stage
    → All (λ row. length row ≡ length head) lead
lead_staged p head table lead is rows long =
    All-weaker (λ row. IsRow row × (length row ≡ table.stage)) (λ row. length row ≡ length head)
    (λ row h. h.1 ∙ ap (λ (t : TableParts). t.stage) is ∙ sym long) lead rows.are_rows

abbrev pub RowsJoin : Type 0
RowsJoin = (p : ProblemParts) (calling more : List ℕ) → rows_of p (calling ++ more) ≡ rows_of p calling ++ map (product (head_of p calling)) (rows_of p more)

-- as many patterns as the query has
pub fittings_counted : (p : ProblemParts) (node : List ℕ) (patterns : List Fitting) → HaveFittings p node patterns → length patterns ≡ length p.query.patterns
fittings_counted p node patterns fitting =
    sym (length-map patterns (fitting_at (length node))) ∙ ap length (whole_rows p node patterns fitting) ∙ length-map p.query.patterns (fitted p node)

pub told_counted : (p : ProblemParts) (node : List ℕ) (step : ℕ) (rows : List ℕ) → rows ≡ rows_fitting_after p node step → length rows ≡ length p.query.patterns
told_counted p node step rows is =
    ap length is ∙ length-map p.query.patterns (λ pattern. rows_fitting pattern.cells (map (product (head_of p node)) (rows_of p (step ∷ []))))

-- the rows of a child
module _ (joins : RowsJoin) (p : ProblemParts) (node : List ℕ) (step : ℕ) (patterns : List Fitting) (fitting : HaveFittings p node patterns) where
  rows_more_of : (after : List Fitting) → fittings_at (length node + 1) after ≡ map (fitted p (child node step)) p.query.patterns
      → ((k : ℕ) → k ≤ length node → fittings_at k after ≡ fittings_at k patterns) → HaveFittings p (child node step) after
  rows_more_of after here before =
      let long : length (child node step) ≡ length node + 1 = omega (arith, length-append node (step ∷ [])) in
      fronts_more (λ front. HasFittings p front after) node step
      (λ k low. before (length (take k node)) (omega (arith, low, length-take k node)) ∙ fitting k low)
      (ap (λ n. fittings_at n after) long ∙ here)

  pub fittings_raised : IsSound p → (head : List ℕ) (lead : List (List ℕ)) → head ≡ head_of p node → lead ≡ rows_of p (step ∷ []) → All (λ row. length row ≡ p.stage) lead
      → HaveFittings p (child node step) (map (lead_on (length node) head lead) patterns)
  fittings_raised sound head lead head_is lead_is staged =
      let joined : rows_of p (child node step) ≡ rows_of p node ++ map (product head) lead = joins p node (step ∷ []) ∙ ap₂ (λ h l. rows_of p node ++ map (product h) l) (sym head_is) (sym lead_is) in
      rows_more_of (map (lead_on (length node) head lead) patterns)
      (lead_now (length node) head lead patterns ∙ ap (map (rows_more head lead)) (whole_rows p node patterns fitting) ∙ patterns_raised p node step head lead joined staged p.query.patterns (all_fit p sound))
      (λ k low. lead_before (length node) head lead k patterns low)

  pub fittings_more : (rows : List ℕ) → rows ≡ rows_fitting_after p node step → HaveFittings p (child node step) (all_on (length node) patterns rows)
  fittings_more rows is =
      let as_many : length rows ≡ length patterns = told_counted p node step rows is ∙ sym (fittings_counted p node patterns fitting) in
      rows_more_of (all_on (length node) patterns rows)
      (all_now (length node) patterns rows ∙ ap₂ (λ ps ns. counted_more ps ns) (whole_rows p node patterns fitting) is
      ∙ counted_raised p node step (map (product (head_of p node)) (rows_of p (step ∷ []))) (joins p node (step ∷ [])) p.query.patterns)
      (λ k low. all_before (length node) k patterns rows low as_many)

-- and of its parent
pub fittings_fewer : (p : ProblemParts) (node : List ℕ) (patterns : List Fitting) → HaveFittings p node patterns → HaveFittings p (parent node) patterns
fittings_fewer p node patterns fitting = fronts_fewer (λ front. HasFittings p front patterns) node fitting

-- the fronts of no leads
no_front : (k : ℕ) → take {A = ℕ} k [] ≡ []
no_front k = take_all k [] (omega arith)

-- nothing is counted of no leads
pub none_counted : (p : ProblemParts) (counts : LeadCounts) → counts.steps.items ≡ [] → gauges_at 0 counts.marks.items ≡ map (mark_gauge (parts_of p) 0) p.query.counts
    → gauges_at 0 counts.letters.items ≡ map (letter_gauge (parts_of p) 0) p.query.method_counts → get_or counts.lengths 0 0 ≡ 0 → get_or counts.changes 0 0 ≡ 0
    → AreCounted p [] counts
none_counted p counts node_is by_mark by_letter long changed = record {
  node_is = node_is;
  steps = All-nil (λ s. s < length p.leads);
  few = omega arith;
  fronts = λ k low. subst (λ front. IsCounted p front counts) (sym (no_front k)) (record {
    by_mark = by_mark;
    by_letter = by_letter;
    long = long;
    changed = changed;
  });
}

-- and no rows fit
pub none_fitting : (p : ProblemParts) (patterns : List Fitting) → fittings_at 0 patterns ≡ map (fitting_of p.stage 0) p.query.patterns → HaveFittings p [] patterns
none_fitting p patterns fitting k low = subst (λ front. HasFittings p front patterns) (sym (no_front k)) fitting

-- a count of words is so often that of the word
repeated_count : (f : ℕ → ℕ) (word : List ℕ) (from number : ℕ) → sum_by f (flat_map (λ _. word) (range_with_len from number)) ≡ number * sum_by f word
repeated_count f word from zero = omega arith
repeated_count f word from (suc number) =
    let rest = repeated_count f word (from + 1) number in
    let sum = sum_by-append f word (flat_map (λ _. word) (range_with_len (from + 1) number)) in
    let more = suc-mul number (sum_by f word) in
    sum ∙ ap (λ n. sum_by f word + n) rest ∙ omega (arith, more)

-- counts are met where they are so of the gauges, in all parts
pub marks_met : (p : ProblemParts) (node : List ℕ) (marks : List Gauge) → 1 ≤ parts_of p → marks ≡ map (marked p node) p.query.counts → All IsIn marks ↔ MeetsCounts p (touch_of p node)
marks_met p node marks some by_mark =
    let within : (count : Count) → IsIn (marked p node count) ↔ IsWithin count.min count.max (parts_of p * leads_marked p count.mark node) =
    λ count. within_is (parts_of p) count.min count.max (leads_marked p count.mark node) some in
    let often : (count : Count) → leads_marked p count.mark (touch_of p node) ≡ parts_of p * leads_marked p count.mark node =
    λ count. repeated_count (λ s. cond (nat_eq (mark_of p s) count.mark) 1 0) node 0 (parts_of p) in (
      λ all k d inside.
          let count = get_or p.query.counts k d in
          let here = subst (All IsIn) by_mark all k (marked p node d) (omega (arith, inside, length-map p.query.counts (marked p node))) in
          subst (IsWithin count.min count.max) (sym (often count)) ((within count).0 (subst IsIn (get_or-map (marked p node) p.query.counts k d (marked p node d) inside) here)),
      λ met. subst (All IsIn) (sym by_mark) (All-map IsIn (marked p node) p.query.counts
          (λ k d inside. let count = get_or p.query.counts k d in (within count).1 (subst (IsWithin count.min count.max) (often count) (met k d inside)))),
    )

pub letters_met : (p : ProblemParts) (node : List ℕ) (letters : List Gauge) → 1 ≤ parts_of p → letters ≡ map (lettered p node) p.query.method_counts → All IsIn letters ↔ MeetsMethodCounts p (touch_of p node)
letters_met p node letters some by_letter =
    let within : (count : MethodCount) → IsIn (lettered p node count) ↔ IsWithin count.min count.max (parts_of p * leads_lettered p count.letter node) =
    λ count. within_is (parts_of p) count.min count.max (leads_lettered p count.letter node) some in
    let often : (count : MethodCount) → leads_lettered p count.letter (touch_of p node) ≡ parts_of p * leads_lettered p count.letter node =
    λ count. repeated_count (λ s. cond (nat_eq (letter_of p s) count.letter) 1 0) node 0 (parts_of p) in (
      λ all k d inside.
          let count = get_or p.query.method_counts k d in
          let here = subst (All IsIn) by_letter all k (lettered p node d) (omega (arith, inside, length-map p.query.method_counts (lettered p node))) in
          subst (IsWithin count.min count.max) (sym (often count)) ((within count).0 (subst IsIn (get_or-map (lettered p node) p.query.method_counts k d (lettered p node d) inside) here)),
      λ met. subst (All IsIn) (sym by_letter) (All-map IsIn (lettered p node) p.query.method_counts
          (λ k d inside. let count = get_or p.query.method_counts k d in (within count).1 (subst (IsWithin count.min count.max) (often count) (met k d inside)))),
    )

-- what a list holds that was lent whole and written back
pub written : {X : Type 0} (number : ℕ) (before after : List X) → number ≡ length before → length after ≡ length before
    → take number (after ++ drop (length after) before) ≡ after
written number before after is same =
    ap (λ rest. take number (after ++ rest)) (drop_all (length after) before (omega arith))
    ∙ ap (take number) (append-nil after)
    ∙ take_all number after (omega arith)

-- what a meter keeps of its node
pub kept : (p : ProblemParts) (node : List ℕ) (counts : LeadCounts) (patterns : List Fitting) → IsSound p → AreCounted p node counts → HaveFittings p node patterns
    → AreCounted p counts.steps.items counts × HaveFittings p counts.steps.items patterns × AreSmall counts × HasFewRows (fittings_at (length counts.steps.items) patterns)
kept p node counts patterns sound counted fitting =
    let here : AreCounted p counts.steps.items counts = subst (λ n. AreCounted p n counts) (sym counted.node_is) counted in
    let there : HaveFittings p counts.steps.items patterns = subst (λ n. HaveFittings p n patterns) (sym counted.node_is) fitting in (
      here,
      there,
      small_counts p counts sound here,
      few_rows p counts.steps.items patterns sound here.steps here.few (whole_rows p counts.steps.items patterns there),
    )
