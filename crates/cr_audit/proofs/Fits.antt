-- How many rows of the fronts of a node fit each pattern.
use Rattle.std.proofs.Common.{◌≡◌, ℕ, ◌+◌, ◌-◌, ◌<◌, ◌≤◌, cond, List, [], ◌∷◌, ◌++◌, length, get_or, take, drop, map, inl, inr, refl, sym, ap, ◌∙◌, arith, length-append, take-append-drop}
use Rattle.std.proofs.lemmas.Bool.{cases_eq}
use Rattle.std.proofs.lemmas.List.{get_or-map, get_or_append_left, get_or_at, get_or-take, take_all, length-take-le}
use Rattle.std.proofs.lemmas.List.Sums.{sum_by-cons, sum_by-append, count_by-le-length}
use Rattle.cr_row.specs.Rows.{Places, after}
use Rattle.cr_model.specs.declared.query.Cell.{Cell}
use Rattle.cr_model.specs.Problems.{ProblemParts, PatternParts}
use Rattle.cr_model.specs.Callings.{rows_of, rows_from}
use Rattle.cr_model.specs.Queries.{fits, rows_fitting}
use Rattle.cr_model.specs.Right.{pattern_at}
use Rattle.cr_model.specs.Sizes.{child}
use Rattle.cr_audit.specs.Paths.{AreFitting, fitting_of, front}
use Rattle.cr_audit.proofs.Fronts.{take_of_child}

-- a child has the fronts of its node, and the node itself
pub fitting_down : (p : ProblemParts) (node : List ℕ) (step : ℕ) (fitting : List (List ℕ)) → AreFitting p node (length node + 1) fitting → AreFitting p (child node step) (length (child node step)) fitting
fitting_down p node step fitting are = record {
  all = are.all ∙ sym (length-append node (step ∷ []));
  each = λ k inside.
      let low : k ≤ length node = omega (arith, length-append node (step ∷ [])) in
      are.each k (omega arith) ∙ ap (fitting_of p) (sym (take_of_child node step k low));
}

pub fitting_up : (p : ProblemParts) (node : List ℕ) (step : ℕ) (fitting : List (List ℕ)) → AreFitting p (child node step) (length (child node step)) fitting → AreFitting p node (length node + 1) fitting
fitting_up p node step fitting are = record {
  all = are.all ∙ length-append node (step ∷ []);
  each = λ k inside.
      are.each k (omega (arith, length-append node (step ∷ []))) ∙ ap (fitting_of p) (take_of_child node step k (omega arith));
}

-- the node's own behind those of its fronts
pub fitting_more : (p : ProblemParts) (node : List ℕ) (fitting : List (List ℕ)) (own : List ℕ) → own ≡ fitting_of p node → AreFitting p node (length node) fitting
    → AreFitting p node (length node + 1) (fitting ++ own ∷ [])
fitting_more p node fitting own is are = record {
  all = length-append fitting (own ∷ []) ∙ ap (λ n. n + 1) are.all;
  each = λ k inside. elim (cases_eq k (length node)) [
    | inl last ↦ get_or_at fitting own [] [] k (are.all ∙ sym last) ∙ is ∙ ap (fitting_of p) (sym (take_all k node (omega arith)))
    | inr other ↦ get_or_append_left fitting (own ∷ []) [] k (omega (arith, are.all)) ∙ are.each k (omega arith)
  ];
}

-- and without it
pub fitting_less : (p : ProblemParts) (node : List ℕ) (fitting : List (List ℕ)) → AreFitting p node (length node + 1) fitting
    → AreFitting p node (length node) (take (length fitting - 1) fitting)
fitting_less p node fitting are = record {
  all = omega (arith, length-take-le (length fitting - 1) fitting (omega arith), are.all);
  each = λ k inside. get_or-take (length fitting - 1) fitting k [] (omega (arith, are.all)) ∙ are.each k (omega arith);
}

-- one of the numbers
pub fitting_at : (p : ProblemParts) (node : List ℕ) (index : ℕ) → index < length p.query.patterns
    → get_or (fitting_of p node) index 0 ≡ rows_fitting (pattern_at p.query.patterns index).cells (rows_of p node)
fitting_at p node index inside = get_or-map (λ (pattern : PatternParts). rows_fitting pattern.cells (rows_of p node)) p.query.patterns index _ 0 inside

-- rows in two parts
pub fitting_joined : (cells : List Cell) (rows more : List (List ℕ)) → rows_fitting cells (rows ++ more) ≡ rows_fitting cells rows + rows_fitting cells more
fitting_joined cells rows more = sum_by-append (λ row. cond {A = ℕ} (fits cells row) 1 0) rows more

pub fitting_split : (cells : List Cell) (rows : List (List ℕ)) (before : ℕ) → rows_fitting cells (take before rows) + rows_fitting cells (drop before rows) ≡ rows_fitting cells rows
fitting_split cells rows before = sym (fitting_joined cells (take before rows) (drop before rows)) ∙ ap (rows_fitting cells) (take-append-drop before rows)

-- the rows that changes give, one by one
pub fitting_step : (cells : List Cell) (row : List ℕ) (change : Places) (later : List Places)
    → rows_fitting cells (rows_from row (change ∷ later)) ≡ cond {A = ℕ} (fits cells (after change row)) 1 0 + rows_fitting cells (rows_from (after change row) later)
fitting_step cells row change later = sum_by-cons (λ r. cond {A = ℕ} (fits cells r) 1 0) (after change row) (rows_from (after change row) later)

-- no more fit than there are
pub fitting_few : (cells : List Cell) (rows : List (List ℕ)) → rows_fitting cells rows ≤ length rows
fitting_few cells rows = count_by-le-length (fits cells) rows
