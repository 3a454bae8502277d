-- What is due after a line.
use Rattle.std.proofs.Common.{◌≡◌, ℕ, zero, suc, ◌+◌, ◌-◌, ◌<◌, ◌≤◌, true, cond, List, [], ◌∷◌, ◌++◌, length, map, refl, sym, ap, ◌∙◌, arith, append-nil, append_assoc}
use Rattle.std.specs.List.{range_with_len}
use Rattle.cr_model.specs.Problems.{ProblemParts}
use Rattle.cr_model.specs.Sizes.{child, children}
use Rattle.cr_audit.specs.declared.verdict.Verdict.{Verdict}
use Rattle.cr_audit.specs.declared.verdict.Verdict.TheVariants as verdict
use Rattle.cr_audit.specs.Logs.{opened_by}
use Rattle.cr_audit.specs.Dues.{later_below, later, dues, is_open}

-- the nodes beside a node's child, from a step on
abbrev pub beside : ProblemParts → List ℕ → ℕ → List (List ℕ)
beside p node step = map (child node) (range_with_len step (length p.leads - step))

-- a step further down
pub later_child : (p : ProblemParts) (above steps : List ℕ) (step : ℕ)
    → later_below p above (steps ++ step ∷ []) ≡ beside p (above ++ steps) (step + 1) ++ later_below p above steps
later_child p above [] step =
    ap (λ (l : List ℕ). beside p l (step + 1)) (sym (append-nil above)) ∙ sym (append-nil (beside p (above ++ []) (step + 1)))
later_child p above (x ∷ steps) step =
    let others = beside p above (x + 1) in
    ap (λ (l : List (List ℕ)). l ++ others) (later_child p (above ++ x ∷ []) steps step)
    ∙ append_assoc (beside p ((above ++ x ∷ []) ++ steps) (step + 1)) (later_below p (above ++ x ∷ []) steps) others
    ∙ ap (λ (l : List ℕ). beside p l (step + 1) ++ (later_below p (above ++ x ∷ []) steps ++ others)) (append_assoc above (x ∷ []) steps)

pub later_step : (p : ProblemParts) (node : List ℕ) (step : ℕ) → later p (child node step) ≡ beside p node (step + 1) ++ later p node
later_step p node step = later_child p [] node step

range_first : (a n : ℕ) → 0 < n → range_with_len a n ≡ a ∷ range_with_len (a + 1) (n - 1)
range_first a zero some = absurd (omega arith)
range_first a (suc n) some = ap (λ k. a ∷ range_with_len (a + 1) k) (let e : n ≡ suc n - 1 = omega arith in e)

-- the first of them
first_beside : (p : ProblemParts) (node : List ℕ) (step : ℕ) → step < length p.leads → beside p node step ≡ child node step ∷ beside p node (step + 1)
first_beside p node step inside =
    ap (map (child node)) (range_first step (length p.leads - step) (omega arith)
    ∙ ap (λ k. step ∷ range_with_len (step + 1) k) (let e : length p.leads - step - 1 ≡ length p.leads - (step + 1) = omega arith in e))

-- a child, and what is due after it
pub from_child : (p : ProblemParts) (node : List ℕ) (step : ℕ) → step < length p.leads
    → dues p true (child node step) ≡ beside p node step ++ later p node
from_child p node step inside =
    ap (λ (l : List (List ℕ)). child node step ∷ l) (later_step p node step)
    ∙ ap (λ (l : List (List ℕ)). l ++ later p node) (sym (first_beside p node step inside))

-- the last child has none beside it
pub from_last : (p : ProblemParts) (node : List ℕ) (step : ℕ) → length p.leads ≤ step + 1 → later p (child node step) ≡ later p node
from_last p node step last =
    later_step p node step
    ∙ ap (λ k. map (child node) (range_with_len (step + 1) k) ++ later p node) (let e : length p.leads - (step + 1) ≡ 0 = omega arith in e)

-- another has the next one
pub from_next : (p : ProblemParts) (node : List ℕ) (step : ℕ) → step + 1 < length p.leads → dues p true (child node (step + 1)) ≡ later p (child node step)
from_next p node step inside = from_child p node (step + 1) inside ∙ sym (later_step p node step)

-- an open node's children come first
pub from_first : (p : ProblemParts) (node : List ℕ) → 0 < length p.leads → dues p true (child node 0) ≡ children p node ++ later p node
from_first p node some =
    from_child p node 0 some
    ∙ ap (λ k. map (child node) (range_with_len 0 k) ++ later p node) (let e : length p.leads - 0 ≡ length p.leads = omega arith in e)

-- what a verdict opens
pub opened_is : (p : ProblemParts) (node : List ℕ) (why : Verdict) → opened_by p node why ≡ cond (is_open why) (children p node) []
opened_is p node verdict.Open = refl
opened_is p node verdict.Long = refl
opened_is p node (verdict.Again i j) = refl
opened_is p node (verdict.Home i) = refl
opened_is p node (verdict.Many of) = refl
opened_is p node (verdict.Few of) = refl
opened_is p node (verdict.Back k) = refl
