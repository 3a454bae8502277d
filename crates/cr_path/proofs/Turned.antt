-- Rotations by numbers.
use Rattle.std.proofs.Common.{◌≡◌, ℕ, ◌+◌, ◌-◌, ◌*◌, ◌<◌, ◌≤◌, cond, List, [], ◌∷◌, ◌++◌, length, get_or, take, drop, refl, sym, ap, ap₂, ◌∙◌, subst, arith, take-append-drop, Ordering, Less, Equal, Greater, nat_cmp}
use Rattle.std.specs.Cmp.Lexicographic.{slice_cmp}
use Rattle.std.specs.Ordering.{ordering_then}
use Rattle.std.specs.Prelude.{flat_map}
use Rattle.std.proofs.lemmas.List.{take_more, append_assoc, length-drop, length-take-le}
use Rattle.std.proofs.lemmas.List.Sums.{sum_by-append}
use Rattle.cr_model.specs.declared.query.Cell.{Cell}
use Rattle.cr_model.specs.Problems.{ProblemParts}
use Rattle.cr_model.specs.Callings.{rows_of, head_of}
use Rattle.cr_model.specs.Decided.{rotated}
use Rattle.cr_model.specs.Queries.{fits, rows_fitting}
use Rattle.cr_path.specs.Best.{IsWay}
use Rattle.cr_path.specs.Numbers.{NumberParts, lead_from, lead_fitting, leads_fitting, IsBase, IsRecord, IsNumbered}
use Rattle.cr_path.specs.declared.numbers.table.LeadRecord.{LeadRecord}
use Rattle.cr_path.specs.declared.numbers.rotated_patterns.Way.{Way}
use Rattle.cr_path.proofs.Children.{child_rows, child_head}
use Rattle.cr_path.proofs.Fitting.{at_lead}
use Rattle.cr_path.proofs.Places.{record_at, root_base}

-- lists of which the first parts are of one length are compared by these, and then by the rest
pub joined_cmp : (xs ys more others : List ℕ) → length xs ≡ length ys → slice_cmp nat_cmp (xs ++ more) (ys ++ others) ≡ ordering_then (slice_cmp nat_cmp xs ys) (slice_cmp nat_cmp more others)
joined_cmp [] [] more others long = refl
joined_cmp [] (y ∷ ys) more others long = absurd (omega arith)
joined_cmp (x ∷ xs) [] more others long = absurd (omega arith)
joined_cmp (x ∷ xs) (y ∷ ys) more others long = by (nat_cmp x y) (joined_cmp xs ys more others (omega arith))
  where
    by : (first : Ordering) → slice_cmp nat_cmp (xs ++ more) (ys ++ others) ≡ ordering_then (slice_cmp nat_cmp xs ys) (slice_cmp nat_cmp more others)
        → ordering_then first (slice_cmp nat_cmp (xs ++ more) (ys ++ others)) ≡ ordering_then (ordering_then first (slice_cmp nat_cmp xs ys)) (slice_cmp nat_cmp more others)
    by Less rest = refl
    by Equal rest = rest
    by Greater rest = refl

pub greater≢less : Greater ≡ Less → ⊥
greater≢less h = cc

-- a rotation and the calling
pub turned_cmp : (calling : List ℕ) (by rest : ℕ) → by ≤ length calling → rest ≡ length calling - by
    → slice_cmp nat_cmp (rotated by calling) calling ≡ ordering_then (slice_cmp nat_cmp (drop by calling) (take rest calling)) (slice_cmp nat_cmp (take by calling) (drop rest calling))
turned_cmp calling by rest within is =
    let front : length (take rest calling) ≡ rest = length-take-le rest calling (omega (arith, is)) in
    let back : length (drop by calling) ≡ length calling - by = length-drop by calling in
    ap (slice_cmp nat_cmp (rotated by calling)) (sym (take-append-drop rest calling))
    ∙ joined_cmp (drop by calling) (take rest calling) (take by calling) (drop rest calling) (omega (arith, front, back, is))

-- the way of no leads
pub no_way : (p : ProblemParts) (t : NumberParts) (cells : List Cell) → IsNumbered p t → IsWay p t cells [] (record { base = 0; number = 0 })
no_way p t cells numbered = record { base = root_base p t numbered; number = refl }

module _ (p : ProblemParts) (t : NumberParts) (numbered : IsNumbered p t) (cells : List Cell) where
  -- the way goes on by a step
  pub way_on : (word : List ℕ) (way : Way) (step place : ℕ) (lead : LeadRecord) (fitting : List ℕ) (number : ℕ)
      → fitting ≡ flat_map (leads_fitting p cells) t.heads → step < length p.leads → place ≡ way.base + step
      → lead ≡ get_or t.records place lead → number ≡ get_or fitting place 0
      → IsWay p t cells word way → IsWay p t cells (word ++ step ∷ []) (record { base = lead.next; number = way.number + number })
  way_on word way step place lead fitting number fitting_is known place_is found found_number is =
      let from = is.base in
      let mine : IsRecord p t (head_of p word) step (way.base + step) lead =
      record_at t (head_of p word) way.base from step p numbered known lead lead (found ∙ ap (λ (n : ℕ). get_or t.records n lead) place_is) in
      let index : place ≡ from.number * length p.leads + step =
      place_is ∙ ap (λ (n : ℕ). n + step) (from.starts ∙ ap (λ (n : ℕ). from.number * n) numbered.counted) in
      let more : number ≡ rows_fitting cells (lead_from p (head_of p word) step) =
      found_number
      ∙ ap₂ (λ (xs : List ℕ) (n : ℕ). get_or xs n 0) fitting_is index
      ∙ at_lead p cells t.heads from.number step from.numbered known
      ∙ ap (λ (h : List ℕ). lead_fitting p cells h step) from.is in
      record {
        base = subst (λ (h : List ℕ). IsBase t h lead.next) (sym (child_head p word step)) mine.next;
        number = ap₂ (λ (a b : ℕ). a + b) is.number more
            ∙ sym (sum_by-append (λ row. cond (fits cells row) 1 0) (rows_of p word) (lead_from p (head_of p word) step))
            ∙ ap (rows_fitting cells) (sym (child_rows p word step));
      }

  -- one step of some more
  pub way_more : (word steps : List ℕ) (index step : ℕ) (way : Way) → index < length steps → step ≡ get_or steps index 0
      → IsWay p t cells ((word ++ take index steps) ++ step ∷ []) way → IsWay p t cells (word ++ take (index + 1) steps) way
  way_more word steps index step way inside at is =
      subst (λ (w : List ℕ). IsWay p t cells w way)
      (append_assoc word (take index steps) (step ∷ []) ∙ ap (λ (s : List ℕ). word ++ s) (sym (take_more steps index 0 inside ∙ ap (λ (s : ℕ). take index steps ++ s ∷ []) (sym at))))
      is
