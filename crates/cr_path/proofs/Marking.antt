-- The marks of a node's rows, a lead more and a lead less.
use Rattle.std.proofs.Common.{◌≡◌, ℕ, ◌+◌, ◌-◌, ◌*◌, ◌<◌, ◌≤◌, Bool, true, false, cond, not, ◌&&◌, nat_eq, List, [], ◌∷◌, ◌++◌, length, get_or, take, drop, All, refl, sym, ap, ap₂, ◌∙◌, inl, inr, arith, length-append}
use Rattle.std.specs.List.{list_any}
use Rattle.std.proofs.lemmas.Bool.{and_parts, cases_eq, false≢true, false_from_ne_true, not-true}
use Rattle.std.proofs.lemmas.Bool.Decides.{eqb_tells, same_from_decides, Decides-like}
use Rattle.std.proofs.lemmas.List.{take_all, take-append-le}
use Rattle.std.proofs.lemmas.List.Elements.{All-take, All-drop}
use Rattle.cr_model.specs.Problems.{ProblemParts}
use Rattle.cr_model.specs.Callings.{rows_of, head_of, changes_of_all}
use Rattle.cr_model.specs.Decided.{rows_differ}
use Rattle.cr_model.specs.Levels.{is_listed}
use Rattle.cr_model.specs.Sizes.{child}
use Rattle.cr_model.proofs.Bells.{rows_are_rows, last_is_row}
use Rattle.cr_model.proofs.Deciding.{rows_differ_decided}
use Rattle.cr_path.specs.Marks.{some_marked, AreSet, AreMarked, HasMarks}
use Rattle.cr_path.specs.Numbers.{NumberParts, lead_from, numbers_of, places_of, base_of, is_seen, IsNumbered}
use Rattle.cr_path.proofs.Children.{row_laws, child_rows, leads_differ}
use Rattle.cr_path.proofs.Listed.{differ_joined, some_are, more_marked, fewer_marked}
use Rattle.cr_path.proofs.Chained.{places_more}
use Rattle.cr_path.proofs.Products.{products_differ, factors_differ}

child_counted : (node : List ℕ) (step : ℕ) → length (child node step) ≡ length node + 1
child_counted node step = length-append node (step ∷ [])

child_before : (node : List ℕ) (step n : ℕ) → n ≤ length node → take n (child node step) ≡ take n node
child_before node step n within = take-append-le n node (step ∷ []) within

-- the numbers of a lead
pub within_in : (p : ProblemParts) (t : NumberParts) → IsNumbered p t → (place : ℕ) → All (λ number. number < t.rows) (numbers_of t place)
within_in p t numbered place =
    All-take (λ (number : ℕ). number < t.rows) t.width (drop (place * t.width) t.numbers)
    (All-drop (λ (number : ℕ). number < t.rows) (place * t.width) t.numbers numbered.within)

module _ (p : ProblemParts) (node : List ℕ) (step : ℕ) where
  child_differs : rows_differ (rows_of p (child node step)) ≡ (rows_differ (rows_of p node) && (rows_differ (lead_from p (head_of p node) step) && not (list_any (is_listed (rows_of p node)) (lead_from p (head_of p node) step))))
  child_differs = ap rows_differ (child_rows p node step) ∙ differ_joined (rows_of p node) (lead_from p (head_of p node) step)

  pub node_differs : rows_differ (rows_of p (child node step)) ≡ true → rows_differ (rows_of p node) ≡ true
  node_differs differ = (and_parts (rows_differ (rows_of p node)) _ (sym child_differs ∙ differ)).0

  none_again : rows_differ (rows_of p (child node step)) ≡ true → list_any (is_listed (rows_of p node)) (lead_from p (head_of p node) step) ≡ false
  none_again differ =
      let lead_rows = lead_from p (head_of p node) step in
      let (one, rest) = and_parts (rows_differ (rows_of p node)) (rows_differ lead_rows && not (list_any (is_listed (rows_of p node)) lead_rows)) (sym child_differs ∙ differ) in
      let (two, three) = and_parts (rows_differ lead_rows) (not (list_any (is_listed (rows_of p node)) lead_rows)) rest in
      not-true (list_any (is_listed (rows_of p node)) lead_rows) three

  -- the rows of a lead differ where those from rounds do
  pub lead_differs : rows_differ (lead_from p (head_of p node) step) ≡ rows_differ (rows_of p (step ∷ []))
  lead_differs =
      same_from_decides (rows_differ (lead_from p (head_of p node) step)) (rows_differ (rows_of p (step ∷ [])))
      (rows_differ_decided (lead_from p (head_of p node) step))
      (Decides-like (rows_differ (rows_of p (step ∷ [])))
      (products_differ p.stage (head_of p node) (rows_of p (step ∷ [])) (last_is_row row_laws p.stage (changes_of_all p node)) (rows_are_rows row_laws p.stage (changes_of_all p (step ∷ []))))
      (factors_differ (head_of p node) (rows_of p (step ∷ [])))
      (rows_differ_decided (rows_of p (step ∷ []))))

-- where the rows of a node differ, all of its leads are kept
pub all_fresh : (p : ProblemParts) (t : NumberParts) (node : List ℕ) (marks : List Bool) (fresh : ℕ) → AreMarked p t node marks fresh → rows_differ (rows_of p node) ≡ true → fresh ≡ length node
all_fresh p t node marks fresh are differ = elim (cases_eq fresh (length node)) [
  | inl all ↦ all
  | inr some ↦ absurd (false≢true (sym (are.again (omega (arith, are.within, some))) ∙ leads_differ p node (fresh + 1) differ))
]

-- and their numbers are marked
pub marks_of : (p : ProblemParts) (t : NumberParts) (node : List ℕ) (marks : List Bool) (fresh : ℕ) → AreMarked p t node marks fresh → fresh ≡ length node
    → (number : ℕ) → number < t.rows → get_or marks number false ≡ is_seen t (places_of t node) number
marks_of p t node marks fresh are all number inside =
    are.of number inside ∙ ap (λ word. is_seen t (places_of t word) number) (take_all fresh node (omega (arith, all)))

-- so none is without marks
pub none_unmarked : (p : ProblemParts) (t : NumberParts) (node : List ℕ) (marks : List Bool) (unmarked : ℕ) → HasMarks p t node marks unmarked → rows_differ (rows_of p node) ≡ true → unmarked ≡ 0
none_unmarked p t node marks unmarked has differ = omega (arith, has.within, all_fresh p t node marks (length node - unmarked) has.are differ)

-- a node brings a row again exactly where not all of its leads have marks
pub repeat_told : (p : ProblemParts) (t : NumberParts) (node : List ℕ) (marks : List Bool) (unmarked : ℕ) → HasMarks p t node marks unmarked →
    not (nat_eq unmarked 0) ≡ not (rows_differ (rows_of p node))
repeat_told p t node marks unmarked has = elim (eqb_tells unmarked 0) [
  | inl e ↦
      let whole : take (length node - unmarked) node ≡ node = take_all (length node - unmarked) node (omega (arith, e.1)) in
      ap not (e.0 ∙ sym (ap (λ word. rows_differ (rows_of p word)) (sym whole) ∙ has.are.differ))
  | inr e ↦
      let again : rows_differ (rows_of p node) ≡ false =
      false_from_ne_true (rows_differ (rows_of p node)) (λ differ. e.1 (none_unmarked p t node marks unmarked has differ)) in
      ap not (e.0 ∙ sym again)
]

module _ (p : ProblemParts) (t : NumberParts) (node : List ℕ) (step place : ℕ) (here : place ≡ base_of t node + step) (numbers : List ℕ) (is : numbers ≡ numbers_of t place) where
  -- the child's places
  child_places : places_of t (child node step) ≡ places_of t node ++ place ∷ []
  child_places = places_more t 0 node step ∙ ap (λ k. places_of t node ++ k ∷ []) (sym here)

  -- the marks of a child whose rows differ
  module _ (marks next : List Bool) (fresh : ℕ) (are : AreMarked p t node marks fresh) (long : length next ≡ length marks) where
    pub marked_more : rows_differ (rows_of p (child node step)) ≡ true → AreSet true numbers marks next → AreMarked p t (child node step) next (fresh + 1)
    marked_more differ set =
        let all = all_fresh p t node marks fresh are (node_differs p node step differ) in
        let counted = child_counted node step in
        let whole : take (fresh + 1) (child node step) ≡ child node step = take_all (fresh + 1) (child node step) (omega (arith, counted, all)) in
        record {
          within = omega (arith, counted, all);
          counted = long ∙ are.counted;
          of = λ number inside.
              set number (omega (arith, are.counted, inside))
              ∙ ap (λ ns. cond (list_any (nat_eq number) ns) true (get_or marks number false)) is
              ∙ ap (cond (list_any (nat_eq number) (numbers_of t place)) true) (marks_of p t node marks fresh are all number inside)
              ∙ more_marked t place number (places_of t node)
              ∙ ap (λ places. is_seen t places number) (sym child_places)
              ∙ ap (λ word. is_seen t (places_of t word) number) (sym whole);
          differ = ap (λ word. rows_differ (rows_of p word)) whole ∙ differ;
          again = λ low. absurd (omega (arith, low, counted, all));
        }

  -- the marks of a node, back from a child whose rows are all marked
  module _ (marks next : List Bool) (fresh : ℕ) (are : AreMarked p t (child node step) marks fresh) (long : length next ≡ length marks) where
    pub marked_less : list_any (is_seen t (places_of t node)) (numbers_of t place) ≡ list_any (is_listed (rows_of p node)) (lead_from p (head_of p node) step)
        → fresh ≡ length (child node step) → AreSet false numbers marks next → AreMarked p t node next (length node)
    marked_less told all set =
        let whole : take fresh (child node step) ≡ child node step = take_all fresh (child node step) (omega (arith, all)) in
        let differ : rows_differ (rows_of p (child node step)) ≡ true = ap (λ word. rows_differ (rows_of p word)) (sym whole) ∙ are.differ in
        let front : take (length node) node ≡ node = take_all (length node) node (omega arith) in
        record {
          within = omega arith;
          counted = long ∙ are.counted;
          of = λ number inside.
              set number (omega (arith, are.counted, inside))
              ∙ ap (λ ns. cond (list_any (nat_eq number) ns) false (get_or marks number false)) is
              ∙ ap (cond (list_any (nat_eq number) (numbers_of t place)) false) (marks_of p t (child node step) marks fresh are all number inside)
              ∙ ap (λ places. cond (list_any (nat_eq number) (numbers_of t place)) false (is_seen t places number)) child_places
              ∙ fewer_marked t place number (places_of t node) (told ∙ none_again p node step differ)
              ∙ ap (λ word. is_seen t (places_of t word) number) (sym front);
          differ = ap (λ word. rows_differ (rows_of p word)) front ∙ node_differs p node step differ;
          again = λ low. absurd (omega (arith, low));
        }

module _ (p : ProblemParts) (t : NumberParts) (node : List ℕ) (step : ℕ) (marks : List Bool) (fresh : ℕ) where
  -- the marks of a child with a row twice
  pub marked_same : AreMarked p t node marks fresh → rows_differ (rows_of p (child node step)) ≡ false → AreMarked p t (child node step) marks fresh
  marked_same are twice =
      let counted = child_counted node step in
      let front = child_before node step fresh are.within in
      record {
        within = omega (arith, counted, are.within);
        counted = are.counted;
        of = λ number inside. are.of number inside ∙ ap (λ word. is_seen t (places_of t word) number) (sym front);
        differ = ap (λ word. rows_differ (rows_of p word)) front ∙ are.differ;
        again = λ low. elim (cases_eq fresh (length node)) [
          | inl all ↦ ap (λ word. rows_differ (rows_of p word)) (take_all (fresh + 1) (child node step) (omega (arith, counted, all))) ∙ twice
          | inr some ↦
              let few : fresh < length node = omega (arith, are.within, some) in
              ap (λ word. rows_differ (rows_of p word)) (child_before node step (fresh + 1) (omega (arith, few))) ∙ are.again few
        ];
      }

  -- and back from it
  pub marked_stays : AreMarked p t (child node step) marks fresh → (fresh ≡ length (child node step) → ⊥) → AreMarked p t node marks fresh
  marked_stays are some =
      let counted = child_counted node step in
      let within : fresh ≤ length node = omega (arith, are.within, some, counted) in
      let front = child_before node step fresh within in
      record {
        within = within;
        counted = are.counted;
        of = λ number inside. are.of number inside ∙ ap (λ word. is_seen t (places_of t word) number) front;
        differ = ap (λ word. rows_differ (rows_of p word)) (sym front) ∙ are.differ;
        again = λ low. ap (λ word. rows_differ (rows_of p word)) (sym (child_before node step (fresh + 1) (omega (arith, low)))) ∙ are.again (omega (arith, low, counted));
      }

-- a lead more brings no row again, told by its record, its numbers and the marks
module _ (p : ProblemParts) (t : NumberParts) (numbered : IsNumbered p t) (node : List ℕ) (marks : List Bool) (fresh : ℕ) (are : AreMarked p t node marks fresh) (differ : rows_differ (rows_of p node) ≡ true)
    (step place : ℕ) (told : list_any (is_seen t (places_of t node)) (numbers_of t place) ≡ list_any (is_listed (rows_of p node)) (lead_from p (head_of p node) step)) where
  -- a row of the lead stands among the node's where one of its numbers is marked
  pub marked_told : (numbers : List ℕ) → numbers ≡ numbers_of t place → some_marked marks numbers ≡ list_any (is_listed (rows_of p node)) (lead_from p (head_of p node) step)
  marked_told numbers is =
      ap (some_marked marks) is
      ∙ some_are t.rows (is_seen t (places_of t node)) marks (numbers_of t place) (marks_of p t node marks fresh are (all_fresh p t node marks fresh are differ)) (within_in p t numbered place)
      ∙ told

  pub new_told : (twice : Bool) → twice ≡ not (rows_differ (rows_of p (step ∷ []))) → (numbers : List ℕ) → numbers ≡ numbers_of t place → (not twice && not (some_marked marks numbers)) ≡ rows_differ (rows_of p (child node step))
  new_told twice twice_is numbers is =
      ap₂ (λ a b. not a && not b) twice_is (marked_told numbers is)
      ∙ ap (λ b. b && not (list_any (is_listed (rows_of p node)) (lead_from p (head_of p node) step))) (both_nots (rows_differ (rows_of p (step ∷ []))) ∙ sym (lead_differs p node step))
      ∙ ap (λ b. b && (rows_differ (lead_from p (head_of p node) step) && not (list_any (is_listed (rows_of p node)) (lead_from p (head_of p node) step)))) (sym differ)
      ∙ sym (child_differs p node step)
    where
      both_nots : (b : Bool) → not (not b) ≡ b
      both_nots true = refl
      both_nots false = refl

-- nor does a node above one that brings none
pub old_below : (p : ProblemParts) (node : List ℕ) (step : ℕ) → rows_differ (rows_of p node) ≡ false → false ≡ rows_differ (rows_of p (child node step))
old_below p node step twice =
    sym (ap rows_differ (child_rows p node step) ∙ differ_joined (rows_of p node) (lead_from p (head_of p node) step)
    ∙ ap (λ b. b && (rows_differ (lead_from p (head_of p node) step) && not (list_any (is_listed (rows_of p node)) (lead_from p (head_of p node) step)))) twice)
