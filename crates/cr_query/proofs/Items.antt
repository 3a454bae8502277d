-- What a node has of each item, by what is counted of its fronts.
use Rattle.std.proofs.Common.{◌≡◌, ℕ, ◌+◌, ◌-◌, ◌<◌, ◌≤◌, List, ◌++◌, length, get_or, map, refl, sym, ap, ap₂, ◌∙◌, arith, length-append}
use Rattle.std.proofs.lemmas.List.{length-map, get_or_append_left, get_or-append_right}
use Rattle.std.proofs.lemmas.Simd.{map-map}
use Rattle.cr_model.specs.Problems.{ProblemParts}
use Rattle.cr_model.specs.Callings.{rows_of}
use Rattle.cr_model.specs.Queries.{leads_marked, leads_lettered, rows_fitting}
use Rattle.cr_query.specs.declared.gauges.Gauge.{Gauge}
use Rattle.cr_query.specs.declared.leads.LeadCounts.{LeadCounts}
use Rattle.cr_query.specs.declared.pattern_limits.Fitting.{Fitting}
use Rattle.cr_query.specs.Gauges.{RowGauge}
use Rattle.cr_query.specs.Meters.{marked, lettered, fitted, item_numbers, IsCounted, HasFittings}
use Rattle.cr_query.specs.Tallies.{at_front, fitting_at, leads_at, rows_at}

-- an index into three lists that are joined
pub in_first : (xs ys zs : List ℕ) (i : ℕ) → i < length xs → get_or (xs ++ (ys ++ zs)) i 0 ≡ get_or xs i 0
in_first xs ys zs i inside = get_or_append_left xs (ys ++ zs) 0 i inside

pub in_second : (xs ys zs : List ℕ) (i : ℕ) → length xs ≤ i → i - length xs < length ys → get_or (xs ++ (ys ++ zs)) i 0 ≡ get_or ys (i - length xs) 0
in_second xs ys zs i past inside =
    get_or-append_right xs (ys ++ zs) (length xs) i 0 refl past ∙ get_or_append_left ys zs 0 (i - length xs) inside

pub in_third : (xs ys zs : List ℕ) (i : ℕ) → length xs ≤ i → length ys ≤ i - length xs → get_or (xs ++ (ys ++ zs)) i 0 ≡ get_or zs (i - length xs - length ys) 0
in_third xs ys zs i past all =
    get_or-append_right xs (ys ++ zs) (length xs) i 0 refl past ∙ get_or-append_right ys zs (length ys) (i - length xs) 0 refl all

module _ (p : ProblemParts) (node : List ℕ) (counts : LeadCounts) (patterns : List Fitting)
    (counted : IsCounted p node counts) (fitting : HasFittings p node patterns) where
  abbrev marks : List ℕ
  marks = leads_at (length node) counts.marks.items

  abbrev letters : List ℕ
  letters = leads_at (length node) counts.letters.items

  abbrev rows : List ℕ
  rows = rows_at (length node) patterns

  marks_are : marks ≡ map (λ count. leads_marked p count.mark node) p.query.counts
  marks_are =
      sym (map-map (λ (gauge : Gauge). gauge.number) (at_front (length node)) counts.marks.items)
      ∙ ap (map (λ (gauge : Gauge). gauge.number)) counted.by_mark
      ∙ map-map (λ (gauge : Gauge). gauge.number) (marked p node) p.query.counts

  letters_are : letters ≡ map (λ count. leads_lettered p count.letter node) p.query.method_counts
  letters_are =
      sym (map-map (λ (gauge : Gauge). gauge.number) (at_front (length node)) counts.letters.items)
      ∙ ap (map (λ (gauge : Gauge). gauge.number)) counted.by_letter
      ∙ map-map (λ (gauge : Gauge). gauge.number) (lettered p node) p.query.method_counts

  rows_are : rows ≡ map (λ pattern. rows_fitting pattern.cells (rows_of p node)) p.query.patterns
  rows_are =
      sym (map-map (λ (gauge : RowGauge). gauge.number) (fitting_at (length node)) patterns)
      ∙ ap (map (λ (gauge : RowGauge). gauge.number)) fitting
      ∙ map-map (λ (gauge : RowGauge). gauge.number) (fitted p node) p.query.patterns

  -- the items are what is counted of the node itself
  pub items_are : marks ++ (letters ++ rows) ≡ item_numbers p node
  items_are = ap₂ (λ a b. a ++ b) marks_are (ap₂ (λ a b. a ++ b) letters_are rows_are)

  -- so many are there
  pub items_counted : length (item_numbers p node) ≡ length counts.marks.items + (length counts.letters.items + length patterns)
  items_counted =
      let split = ap length (sym items_are) in
      let first = length-append marks (letters ++ rows) in
      let second = length-append letters rows in
      let some_marks : length marks ≡ length counts.marks.items = length-map counts.marks.items _ in
      let some_letters : length letters ≡ length counts.letters.items = length-map counts.letters.items _ in
      let some_rows : length rows ≡ length patterns = length-map patterns _ in
      omega (arith, split, first, second, some_marks, some_letters, some_rows)

  -- an item of each kind
  pub marked_item : (item : ℕ) → item < length counts.marks.items → get_or marks item 0 ≡ get_or (item_numbers p node) item 0
  marked_item item inside =
      let long : length marks ≡ length counts.marks.items = length-map counts.marks.items _ in
      sym (in_first marks letters rows item (omega (arith, long, inside))) ∙ ap (λ (numbers : List ℕ). get_or numbers item 0) items_are

  pub lettered_item : (item : ℕ) → length counts.marks.items ≤ item → item - length counts.marks.items < length counts.letters.items
      → get_or letters (item - length counts.marks.items) 0 ≡ get_or (item_numbers p node) item 0
  lettered_item item past inside =
      let long : length marks ≡ length counts.marks.items = length-map counts.marks.items _ in
      let more : length letters ≡ length counts.letters.items = length-map counts.letters.items _ in
      ap (λ (n : ℕ). get_or letters (item - n) 0) (sym long)
      ∙ sym (in_second marks letters rows item (omega (arith, long, past)) (omega (arith, long, more, inside)))
      ∙ ap (λ (numbers : List ℕ). get_or numbers item 0) items_are

  pub fitted_item : (item : ℕ) → length counts.marks.items ≤ item → length counts.letters.items ≤ item - length counts.marks.items
      → get_or rows (item - length counts.marks.items - length counts.letters.items) 0 ≡ get_or (item_numbers p node) item 0
  fitted_item item past all =
      let long : length marks ≡ length counts.marks.items = length-map counts.marks.items _ in
      let more : length letters ≡ length counts.letters.items = length-map counts.letters.items _ in
      ap₂ (λ (n m : ℕ). get_or rows (item - n - m) 0) (sym long) (sym more)
      ∙ sym (in_third marks letters rows item (omega (arith, long, past)) (omega (arith, long, more, all)))
      ∙ ap (λ (numbers : List ℕ). get_or numbers item 0) items_are
