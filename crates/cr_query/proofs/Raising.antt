-- What a node's counts become with one lead more.
use Rattle.std.proofs.Common.{◌≡◌, ℕ, ◌+◌, ◌<◌, cond, List, [], ◌∷◌, ◌++◌, length, get_or, map, All, nat_eq, refl, sym, ap, ap₂, ◌∙◌, arith}
use Rattle.std.specs.List.{zip}
use Rattle.std.proofs.lemmas.List.Elements.{All-head, All-tail}
use Rattle.std.proofs.lemmas.List.FromFn.{get_or-map-range_with_len, length-map-range_with_len}
use Rattle.std.proofs.lemmas.List.Sums.{sum_by_push, sum_by-append}
use Rattle.std.proofs.lemmas.List.{get_or-map}
use Rattle.cr_row.specs.Rows.{product}
use Rattle.cr_model.specs.declared.query.Count.{Count}
use Rattle.cr_model.specs.declared.query.MethodCount.{MethodCount}
use Rattle.cr_model.specs.Problems.{PatternParts, ProblemParts}
use Rattle.cr_model.specs.Callings.{mark_of, method_of, letter_of, rows_of, HasSteps}
use Rattle.cr_model.specs.Queries.{fits, leads_marked, leads_lettered, rows_fitting, changes_of_method}
use Rattle.cr_model.specs.Dead.{parts_of}
use Rattle.cr_model.specs.Right.{FitsStage}
use Rattle.cr_model.specs.Sizes.{child}
use Rattle.cr_query.specs.declared.kinds.Kind.{Kind}
use Rattle.cr_query.specs.Gauges.{RowGauge, raised, with_rows, fitting_rows, rows_more, counted_more}
use Rattle.cr_query.specs.Kinds.{kind_of}
use Rattle.cr_query.specs.Meters.{mark_gauge, letter_gauge, fitting_of, marked, lettered, fitted, kinds_of, change_between}
use Rattle.cr_query.proofs.Fitting.{count_fitting, products_long}

-- a map over mapped items
pub map_same : {X Y Z : Type 0} (f : Y → Z) (g : X → Y) (h : X → Z) (P : X → Type 0) → ((x : X) → P x → f (g x) ≡ h x) → (xs : List X) → All P xs → map f (map g xs) ≡ map h xs
map_same f g h P same [] all = refl
map_same f g h P same (x ∷ xs) all = ap₂ (λ y ys. y ∷ ys) (same x (All-head P x xs all)) (map_same f g h P same xs (All-tail P x xs all))

-- the same of pairs
zip_same : {X Y N Z : Type 0} (f : Y × N → Z) (g : X → Y) (n : X → N) (h : X → Z) → ((x : X) → f (g x, n x) ≡ h x) → (xs : List X) → map f (zip (map g xs) (map n xs)) ≡ map h xs
zip_same f g n h same [] = refl
zip_same f g n h same (x ∷ xs) = ap₂ (λ z zs. z ∷ zs) (same x) (zip_same f g n h same xs)

-- what needs no fact of the items
any_item : {X : Type 0} (xs : List X) → All (λ _. Unit {0}) xs
any_item xs = λ k d inside. tt {0}

module _ (p : ProblemParts) (node : List ℕ) (step : ℕ) where
  marks_pushed : (mark : ℕ) → leads_marked p mark (child node step) ≡ leads_marked p mark node + cond (nat_eq (mark_of p step) mark) 1 0
  marks_pushed mark = sum_by_push (λ s. cond (nat_eq (mark_of p s) mark) 1 0) node step

  letters_pushed : (letter : ℕ) → leads_lettered p letter (child node step) ≡ leads_lettered p letter node + cond (nat_eq (letter_of p step) letter) 1 0
  letters_pushed letter = sum_by_push (λ s. cond (nat_eq (letter_of p s) letter) 1 0) node step

  -- the gauges of a child
  pub marks_raised : (counts : List Count) → map (raised (mark_of p step)) (map (marked p node) counts) ≡ map (marked p (child node step)) counts
  marks_raised counts = map_same (raised (mark_of p step)) (marked p node) (marked p (child node step)) (λ _. Unit {0})
      (λ count _. ap (λ n. mark_gauge (parts_of p) n count) (sym (marks_pushed count.mark))) counts (any_item counts)

  pub letters_raised : (counts : List MethodCount) → map (raised (letter_of p step)) (map (lettered p node) counts) ≡ map (lettered p (child node step)) counts
  letters_raised counts = map_same (raised (letter_of p step)) (lettered p node) (lettered p (child node step)) (λ _. Unit {0})
      (λ count _. ap (λ n. letter_gauge (parts_of p) n count) (sym (letters_pushed count.letter))) counts (any_item counts)

  -- the rows of a lead
  module _ (rows : List (List ℕ)) (joined : rows_of p (child node step) ≡ rows_of p node ++ rows) where
    pub fitting_pushed : (pattern : PatternParts)
        → rows_fitting pattern.cells (rows_of p (child node step)) ≡ rows_fitting pattern.cells (rows_of p node) + rows_fitting pattern.cells rows
    fitting_pushed pattern =
        ap (rows_fitting pattern.cells) joined
        ∙ sum_by-append (λ row. cond (fits pattern.cells row) 1 0) (rows_of p node) rows

    -- where it is known how many fit
    pub counted_raised : (patterns : List PatternParts)
        → counted_more (map (fitted p node) patterns) (map (λ (pattern : PatternParts). rows_fitting pattern.cells rows) patterns) ≡ map (fitted p (child node step)) patterns
    counted_raised patterns = zip_same (λ (pair : RowGauge × ℕ). with_rows (pair.0.number + pair.1) pair.0) (fitted p node)
        (λ (pattern : PatternParts). rows_fitting pattern.cells rows) (fitted p (child node step))
        (λ pattern. ap (λ n. fitting_of p.stage n pattern) (sym (fitting_pushed pattern))) patterns

  -- and where the lead is rung from the node's head
  module _ (head : List ℕ) (lead : List (List ℕ))
      (joined : rows_of p (child node step) ≡ rows_of p node ++ map (product head) lead)
      (long : All (λ row. length row ≡ p.stage) lead) where
    rows_pushed : (pattern : PatternParts) → FitsStage p.stage pattern.cells
        → rows_fitting pattern.cells (rows_of p (child node step)) ≡ rows_fitting pattern.cells (rows_of p node) + fitting_rows head lead (fitted p node pattern).shape
    rows_pushed pattern fitting =
        fitting_pushed (map (product head) lead) joined pattern
        ∙ ap (λ n. rows_fitting pattern.cells (rows_of p node) + n) (sym (count_fitting p.stage pattern.cells (map (product head) lead) (products_long p.stage head lead long) fitting))

    pub patterns_raised : (patterns : List PatternParts) → All (λ (pattern : PatternParts). FitsStage p.stage pattern.cells) patterns
        → map (rows_more head lead) (map (fitted p node) patterns) ≡ map (fitted p (child node step)) patterns
    patterns_raised patterns all = map_same (rows_more head lead) (fitted p node) (fitted p (child node step)) (λ (pattern : PatternParts). FitsStage p.stage pattern.cells)
        (λ pattern fitting. ap (λ n. fitting_of p.stage n pattern) (sym (rows_pushed pattern fitting))) patterns all

-- the method of a kind
method_at : (p : ProblemParts) (kinds : List Kind) (step : ℕ) → kinds ≡ kinds_of p → step < length p.leads
    → get_or (map (λ (kind : Kind). kind.method) kinds) step 0 ≡ method_of p step
method_at p kinds step is inside =
    let none : Kind = record { method = 0; mark = 0; letter = 0; length = 0 } in
    let long : length kinds ≡ length p.leads = ap length is ∙ length-map-range_with_len (kind_of p) 0 (length p.leads) in
    let at : 0 + step ≡ step = omega arith in
    get_or-map (λ (kind : Kind). kind.method) kinds step none 0 (omega arith)
    ∙ ap (λ (kind : Kind). kind.method) (ap (λ (l : List Kind). get_or l step none) is ∙ get_or-map-range_with_len (kind_of p) 0 (length p.leads) step step none inside at)

-- one change of method more, or none
pub changes_pushed : (p : ProblemParts) (kinds : List Kind) (node : List ℕ) (step : ℕ) → kinds ≡ kinds_of p → HasSteps p node
    → changes_of_method p (child node step) ≡ changes_of_method p node + change_between kinds node (method_of p step)
changes_pushed p kinds [] step is known = refl
changes_pushed p kinds (first ∷ []) step is known =
    let here = method_at p kinds first is (All-head (λ s. s < length p.leads) first [] known) in
    let same : cond {A = ℕ} (nat_eq (method_of p first) (method_of p step)) 0 1 ≡ change_between kinds (first ∷ []) (method_of p step) =
    ap (λ m. cond {A = ℕ} (nat_eq m (method_of p step)) 0 1) (sym here) in
    omega (arith, same)
changes_pushed p kinds (first ∷ second ∷ node) step is known =
    let rest = changes_pushed p kinds (second ∷ node) step is (All-tail (λ s. s < length p.leads) first (second ∷ node) known) in
    omega (arith, rest)
