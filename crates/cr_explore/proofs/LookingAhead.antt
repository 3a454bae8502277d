-- What an outlook is asked of a node.
use Rattle.std.proofs.Common.{◌≡◌, ℕ, ◌<◌, ◌≤◌, Bool, true, false, cond, nat_eq, List, [], ◌∷◌, ◌++◌, length, get_or, map, refl, sym, ap, ap₂, ◌∙◌, arith, append-nil, append_assoc, length-append}
use Rattle.std.proofs.lemmas.List.{map-append, length-map, get_or-map, get_or_append_left}
use Rattle.std.proofs.lemmas.List.Elements.{All-get_or}
use Rattle.std.proofs.lemmas.Simd.{map-map}
use Rattle.cr_row.specs.Rows.{Places, rounds, product}
use Rattle.cr_model.specs.Problems.{PatternParts, ProblemParts}
use Rattle.cr_model.specs.Callings.{rows_of, rows_from}
use Rattle.cr_model.specs.Queries.{leads_marked, leads_lettered, rows_fitting}
use Rattle.cr_model.specs.Dead.{parts_of}
use Rattle.cr_query.specs.Meters.{item_numbers}
use Rattle.cr_path.specs.Numbers.{AreNextHeads}
use Rattle.cr_ahead.specs.Exact.{head_items}
use Rattle.cr_ahead.specs.Items.{Item, count_item, method_item, pattern_item}
use Rattle.cr_ahead.specs.Outlooks.{AreLeadHeads, OutlookParts, IsItemTable, IsOutlook, no_item, head_item}
use Rattle.cr_ahead.proofs.HeadMoves.{head_times}
use Rattle.cr_ahead.proofs.Outlooks.{zip_length}

-- the heads of a table of numbers are lead heads
pub are_lead_heads : ((stage : ℕ) (row : List ℕ) (changes : List Places) → length row ≡ stage → rows_from row changes ≡ map (product row) (rows_from (rounds stage) changes))
    → ((row : List ℕ) → product row (rounds (length row)) ≡ row)
    → (p : ProblemParts) (heads : List (List ℕ)) (next : List ℕ) → length heads ≤ 4294967296 → AreNextHeads p heads next → AreLeadHeads p heads next
are_lead_heads rung neutral p heads next few are = record {
  few = few;
  staged = are.staged;
  counted = are.counted;
  there = are.there;
  leads = λ place step inside known.
      are.leads place step inside known
      ∙ head_times rung neutral p (get_or heads place []) step (All-get_or (λ head. length head ≡ p.stage) heads place [] inside are.staged);
}

module _ (p : ProblemParts) (node : List ℕ) where
  -- what the node has of each exact item
  abbrev pub exact_numbers : List ℕ
  exact_numbers = map (λ item. item.number_of node) (head_items p)

  -- the exact items are the first ones
  items_on : (patterns : List PatternParts)
      → map (λ item. item.number_of node) (map (count_item p) p.query.counts ++ (map (method_item p) p.query.method_counts ++ map (pattern_item p) patterns))
      ≡ map (λ count. leads_marked p count.mark node) p.query.counts
      ++ (map (λ count. leads_lettered p count.letter node) p.query.method_counts ++ map (λ pattern. rows_fitting pattern.cells (rows_of p node)) patterns)
  items_on patterns =
      let number : Item → ℕ = λ item. item.number_of node in
      map-append number (map (count_item p) p.query.counts) (map (method_item p) p.query.method_counts ++ map (pattern_item p) patterns)
      ∙ ap₂ ◌++◌ (map-map number (count_item p) p.query.counts)
      (map-append number (map (method_item p) p.query.method_counts) (map (pattern_item p) patterns)
      ∙ ap₂ ◌++◌ (map-map number (method_item p) p.query.method_counts) (map-map number (pattern_item p) patterns))

  pub items_begin : (rest : List ℕ) × (item_numbers p node ≡ exact_numbers ++ rest)
  items_begin = by (nat_eq (parts_of p) 1)
    where
      by : (b : Bool) → (rest : List ℕ)
          × (item_numbers p node ≡ map (λ item. item.number_of node) (map (count_item p) p.query.counts ++ (map (method_item p) p.query.method_counts ++ map (pattern_item p) (cond b p.query.patterns []))) ++ rest)
      by true = ([], sym (append-nil _ ∙ items_on p.query.patterns))
      by false =
          let counts = map (λ count. leads_marked p count.mark node) p.query.counts in
          let methods = map (λ count. leads_lettered p count.letter node) p.query.method_counts in
          let rows = map (λ pattern. rows_fitting pattern.cells (rows_of p node)) p.query.patterns in
          (rows, sym (ap (λ front. front ++ rows) (items_on [] ∙ ap (λ more. counts ++ more) (append-nil methods)) ∙ append_assoc counts methods rows))

  -- so they are no more
  pub few_items : length (head_items p) ≤ length (item_numbers p node)
  few_items =
      let (rest, is) = items_begin in
      let whole : length (item_numbers p node) ≡ length (exact_numbers ++ rest) = ap length is in
      omega (arith, whole, length-append exact_numbers rest, length-map (head_items p) (λ (item : Item). item.number_of node))

  -- what the node has of each of them
  pub item_told : (i : ℕ) → i < length (head_items p) → get_or (item_numbers p node) i 0 ≡ (head_item p i).number_of node
  item_told i inside =
      let (rest, is) = items_begin in
      ap (λ (numbers : List ℕ). get_or numbers i 0) is
      ∙ get_or_append_left exact_numbers rest 0 i (omega (arith, inside, length-map (head_items p) (λ (item : Item). item.number_of node)))
      ∙ get_or-map (λ some. some.number_of node) (head_items p) i no_item 0 inside

  -- and where there are none
  pub none_told : length (head_items p) ≡ 0 → [] ≡ exact_numbers
  none_told none = by (head_items p) none
    where
      by : (items : List Item) → length items ≡ 0 → [] ≡ map (λ item. item.number_of node) items
      by [] empty = refl
      by (item ∷ items) empty = absurd (omega (arith, empty))

-- an outlook has a table for each exact item
pub items_of_outlook : (p : ProblemParts) (heads : List (List ℕ)) (outlook : OutlookParts) → IsOutlook p heads outlook → length outlook.items ≡ length (head_items p)
items_of_outlook p heads outlook is = zip_length (IsItemTable p heads outlook.unit) (head_items p) outlook.items is.items
