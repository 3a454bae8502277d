-- All steps asked at once.
use Rattle.std.proofs.Common.{◌≡◌, ℕ, zero, suc, ◌+◌, ◌<◌, ◌≤◌, Bool, true, false, cond, ◌||◌, nat_eq, pos, List, [], ◌∷◌, length, get_or, map, take, None, refl, sym, ap, ap₂, ◌∙◌, arith}
use Rattle.std.specs.List.{list_any}
use Rattle.std.proofs.lemmas.Bool.{false≢true}
use Rattle.std.proofs.lemmas.List.{length-map, get_or-map}
use Rattle.cr_model.specs.declared.query.Count.{Count}
use Rattle.cr_model.specs.declared.query.MethodCount.{MethodCount}
use Rattle.cr_model.specs.Problems.{ProblemParts}
use Rattle.cr_model.specs.Callings.{mark_of, letter_of}
use Rattle.cr_query.specs.declared.gauges.Gauge.{Gauge}
use Rattle.cr_query.specs.declared.kinds.Kind.{Kind}
use Rattle.cr_query.specs.declared.numbers.Numbers.{Numbers}
use Rattle.cr_query.specs.Gauges.{at_number, raised, is_out, is_com_out, hopeless_with, has_more_rows, AreOf}
use Rattle.cr_query.specs.Hits.{mark_steps, letter_steps}
use Rattle.cr_model.specs.Dead.{is_too_many, is_too_few}
use Rattle.cr_query.specs.Meters.{marked, lettered, fitted, has_too_many_leads, has_too_few_leads, has_too_few_rows, has_too_many_rows, is_hopeless_by_leads, is_hopeless_by_rows}
use Rattle.cr_query.specs.Sets.{has_step}
use Rattle.cr_query.proofs.StepSets.{steps_are}
use Rattle.cr_query.proofs.Told.{any_mapped, in_order, many_in_order}

-- a gauge asked for a step that it counts or not
pub counted_or_not : (more : ℕ) (gauge : Gauge) (counted : Bool)
    → cond counted (is_out more (at_number (gauge.number + 1) gauge)) (is_out more gauge) ≡ is_out more (at_number (gauge.number + cond counted 1 0) gauge)
counted_or_not more gauge true = refl
counted_or_not more gauge false =
    let same : gauge.number ≡ gauge.number + 0 = omega arith in
    ap (λ n. is_out more (at_number n gauge)) same

-- a test of one item more
any_next : {X : Type 0} (test : X → Bool) (xs : List X) (i : ℕ) (d : X) → i < length xs → list_any test (take (suc i) xs) ≡ (list_any test (take i xs) || test (get_or xs i d))
any_next test [] i d inside = absurd (omega (arith, inside))
any_next test (x ∷ xs) zero d inside = or_none (test x)
  where
    or_none : (b : Bool) → (b || false) ≡ b
    or_none true = refl
    or_none false = refl
any_next test (x ∷ xs) (suc i) d inside =
    ap (λ b. test x || b) (any_next test xs i d (omega (arith, inside))) ∙ or_assoc (test x) (list_any test (take i xs)) (test (get_or xs i d))
  where
    or_assoc : (a b c : Bool) → (a || (b || c)) ≡ ((a || b) || c)
    or_assoc true b c = refl
    or_assoc false b c = refl

pub any_more : {X : Type 0} (test : X → Bool) (xs : List X) (i : ℕ) (d : X) → i < length xs → list_any test (take (i + 1) xs) ≡ (list_any test (take i xs) || test (get_or xs i d))
any_more test xs i d inside =
    let next : i + 1 ≡ suc i = omega arith in
    ap (λ n. list_any test (take n xs)) next ∙ any_next test xs i d inside

-- as many sets as gauges
pub as_many_sets : {C : Type 0} (f : C → Gauge) (g : C → ℕ) (counts : List C) (gauges : List Gauge) (sets : List ℕ) → gauges ≡ map f counts → sets ≡ map g counts → length sets ≡ length gauges
as_many_sets f g counts gauges sets gauges_are sets_are = ap length sets_are ∙ length-map counts g ∙ sym (ap length gauges_are ∙ length-map counts f)

-- the sets tell which gauges count a step
module _ (p : ProblemParts) (node : List ℕ) (step : ℕ) (inside : step < length p.leads) (few : length p.leads ≤ 32) (gauges : List Gauge) (sets : List ℕ) where
  pub of_marks : gauges ≡ map (marked p node) p.query.counts → sets ≡ map (mark_steps p) p.query.counts → AreOf step (mark_of p step) gauges sets
  of_marks gauges_are sets_are i d within =
      let none : Count = record { mark = 0; min = pos 0; max = pos 0 } in
      let here : i < length p.query.counts = omega (arith, within, ap length gauges_are, length-map p.query.counts (marked p node)) in
      ap (λ l. has_step (get_or l i 0) step) sets_are
      ∙ ap (λ set. has_step set step) (get_or-map (mark_steps p) p.query.counts i none 0 here)
      ∙ steps_are (λ s. nat_eq (mark_of p s) (get_or p.query.counts i none).mark) (length p.leads) step few inside
      ∙ sym (ap (λ l. nat_eq (mark_of p step) (get_or l i d).of) gauges_are ∙ ap (λ (g : Gauge). nat_eq (mark_of p step) g.of) (get_or-map (marked p node) p.query.counts i none d here))

  pub of_letters : gauges ≡ map (lettered p node) p.query.method_counts → sets ≡ map (letter_steps p) p.query.method_counts → AreOf step (letter_of p step) gauges sets
  of_letters gauges_are sets_are i d within =
      let none : MethodCount = record { letter = 0; min = pos 0; max = pos 0 } in
      let here : i < length p.query.method_counts = omega (arith, within, ap length gauges_are, length-map p.query.method_counts (lettered p node)) in
      ap (λ l. has_step (get_or l i 0) step) sets_are
      ∙ ap (λ set. has_step set step) (get_or-map (letter_steps p) p.query.method_counts i none 0 here)
      ∙ steps_are (λ s. nat_eq (letter_of p s) (get_or p.query.method_counts i none).letter) (length p.leads) step few inside
      ∙ sym (ap (λ l. nat_eq (letter_of p step) (get_or l i d).of) gauges_are ∙ ap (λ (g : Gauge). nat_eq (letter_of p step) g.of) (get_or-map (lettered p node) p.query.method_counts i none d here))

-- where changes of method have no limits
pub without_com : (numbers : Numbers) (marks letters : List Gauge) (kind : Kind) (changes left : ℕ) → numbers.com ≡ None
    → (list_any (λ gauge. is_out left (raised kind.mark gauge)) marks || list_any (λ gauge. is_out left (raised kind.letter gauge)) letters)
    ≡ hopeless_with numbers marks letters kind changes left
without_com numbers marks letters kind changes left none =
    ap (λ b. list_any (λ gauge. is_out left (raised kind.mark gauge)) marks || b) (or_none (list_any (λ gauge. is_out left (raised kind.letter gauge)) letters))
    ∙ ap (λ limits. list_any (λ gauge. is_out left (raised kind.mark gauge)) marks || (list_any (λ gauge. is_out left (raised kind.letter gauge)) letters || is_com_out limits numbers.parts changes left)) (sym none)
  where
    or_none : (b : Bool) → b ≡ (b || false)
    or_none true = refl
    or_none false = refl

-- a node that is not hopeless by its leads is so by its rows, or not at all
pub by_rows : (p : ProblemParts) (node : List ℕ) (rows : Bool) → is_hopeless_by_leads p node ≡ false
    → rows ≡ list_any has_more_rows (map (fitted p node) p.query.patterns) → (rows || has_too_few_rows p node) ≡ (is_too_many p node || is_too_few p node)
by_rows p node rows told is =
    beside (has_too_many_leads p node) (has_too_few_leads p node) rows (has_too_few_rows p node) told
    ∙ ap₂ (λ a b. a || b) (many_in_order p node rows is) (in_order _ _ _ (has_too_few_rows p node))
  where
    beside : (a b x y : Bool) → (a || b) ≡ false → (x || y) ≡ ((a || x) || (b || y))
    beside true b x y off = absurd (false≢true (sym off))
    beside false true x y off = absurd (false≢true (sym off))
    beside false false x y off = refl

-- leads and rows are told apart
pub leads_or_rows : (p : ProblemParts) (node : List ℕ) → (is_too_many p node || is_too_few p node) ≡ (is_hopeless_by_leads p node || is_hopeless_by_rows p node)
leads_or_rows p node =
    let is = sym (any_mapped has_more_rows (fitted p node) p.query.patterns) in
    sym (ap₂ (λ a b. a || b) (many_in_order p node (has_too_many_rows p node) is) (in_order _ _ _ (has_too_few_rows p node)))
    ∙ apart (has_too_many_leads p node) (has_too_few_leads p node) (has_too_many_rows p node) (has_too_few_rows p node)
  where
    apart : (a b x y : Bool) → ((a || x) || (b || y)) ≡ ((a || b) || (x || y))
    apart true b x y = refl
    apart false true true y = refl
    apart false true false y = refl
    apart false false x y = refl
