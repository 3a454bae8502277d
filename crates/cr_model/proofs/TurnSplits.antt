-- One turn on a node: its touch, if that is kept, and its live children are a split of it.
use Rattle.std.proofs.Common.{◌≡◌, ◌≢◌, ℕ, zero, suc, ◌+◌, ◌<◌, ◌≤◌, Bool, true, false, cond, ◌&&◌, List, [], ◌∷◌, ◌++◌, length, get_or, map, take, filter, count_by, ◌/◌, All, Any, Option, Some, None, is_none, nat_eq, inl, inr, refl, sym, ap, ap₂, ◌∙◌, subst, arith, append-nil, length-append, eq-eqb, eqb-true, bytes_eq}
use Rattle.std.specs.List.{range_with_len}
use Rattle.std.specs.List.Sorted.{IsStrictlyIncreasing, IsStrictlySortedBy}
use Rattle.std.specs.Ordering.{nat_cmp}
use Rattle.std.proofs.lemmas.Bool.{cases_lt, cases_eq, true≢false, false_from_ne_true}
use Rattle.std.proofs.lemmas.List.{get_or-map, length-map}
use Rattle.std.proofs.lemmas.List.Elements.{All-nil, All-cons, All-head, All-append, All-map, All-filter, filter_passes, All-from_get_or}
use Rattle.std.proofs.lemmas.List.FromFn.{get_or-range_with_len, length-range_with_len}
use Rattle.std.proofs.lemmas.List.Kept.{IsStrictlySortedBy-filter}
use Rattle.std.proofs.lemmas.Map.Keys.{sorted_from_strictly_increasing, below_from_sorted}
use Rattle.std.proofs.lemmas.Slice.Eq.{bytes_eq-Decides}
use Rattle.cr_model.specs.declared.reason.Reason.{Reason}
use Rattle.cr_model.specs.Problems.{ProblemParts}
use Rattle.cr_model.specs.Callings.{HasSteps}
use Rattle.cr_model.specs.Decided.{is_kept}
use Rattle.cr_model.specs.Touches.{Kept}
use Rattle.cr_model.specs.Nodes.{part_of, is_prefix, is_above, IsValid, nodes_above, times_found, Splits}
use Rattle.cr_model.specs.Sound.{IsSound}
use Rattle.cr_model.specs.Dead.{HasNoneBelow, parts_of, dead}
use Rattle.cr_model.specs.Sizes.{child, children, live_children}
use Rattle.cr_model.specs.OneTurn.{touch_of, touch_found}
use Rattle.cr_model.proofs.Below.{words, some_parts, Below, below, rest_steps}
use Rattle.cr_model.proofs.Counting.{count_more, count_yes, count_no, count_none}
use Rattle.cr_model.proofs.KeptTest.{is_kept_decided}
use Rattle.cr_model.proofs.Parts.{first_word}
use Rattle.cr_model.proofs.Prefixes.{prefix_iff, begins_itself, begins_onward}
use Rattle.cr_model.proofs.Sizing.{live_short}

-- a child begins what its node begins, where its step is the next
child_of_itself : (node : List ℕ) (step : ℕ) → is_prefix (child node step) node ≡ false
child_of_itself [] step = refl
child_of_itself (x ∷ node) step = ap₂ ◌&&◌ (eq-eqb x x refl) (child_of_itself node step)

child_begins : (node rest : List ℕ) (step next : ℕ) → is_prefix (child node step) (node ++ next ∷ rest) ≡ nat_eq step next
child_begins [] rest step next = by (nat_eq step next)
  where
    by : (b : Bool) → (b && true) ≡ b
    by true = refl
    by false = refl
child_begins (x ∷ node) rest step next = ap₂ ◌&&◌ (eq-eqb x x refl) (child_begins node rest step next)

-- the node begins its children
begins_child : (node : List ℕ) (step : ℕ) → is_prefix node (child node step) ≡ true
begins_child node step = (prefix_iff node (child node step)).1 (step ∷ [], refl)

-- a list is no longer one
not_longer : (node rest : List ℕ) (step : ℕ) → node ≡ node ++ step ∷ rest → ⊥
not_longer node rest step e = let long : length node ≡ length (node ++ step ∷ rest) = ap length e in absurd (omega (arith, length-append node (step ∷ rest)))

-- steps that differ
differ_by_test : (a b : ℕ) → a ≢ b → nat_eq a b ≡ false
differ_by_test a b differ = false_from_ne_true (nat_eq a b) (λ h. differ (eqb-true a b h))

module _ {X : Type 0} (test : X → Bool) where
  -- what is left out does not pass
  count_filtered : (keeps : X → Bool) (xs : List X) → ((x : X) → keeps x ≡ false → test x ≡ false) → count_by test (filter keeps xs) ≡ count_by test xs
  count_filtered keeps [] fails = refl
  count_filtered keeps (x ∷ xs) fails = by (keeps x) refl (count_filtered keeps xs fails)
    where
      by : (b : Bool) → keeps x ≡ b → count_by test (filter keeps xs) ≡ count_by test xs → count_by test (cond b (x ∷ filter keeps xs) (filter keeps xs)) ≡ count_by test (x ∷ xs)
      by true h rest = count_more test x (filter keeps xs) ∙ ap (λ n. cond (test x) 1 0 + n) rest ∙ sym (count_more test x xs)
      by false h rest = rest ∙ sym (count_no test x xs (fails x h))

-- one child begins with the next step, if it is one of those
module _ (node rest : List ℕ) (next : ℕ) where
  none_past : (a n : ℕ) → next < a → count_by (λ other. is_prefix other (node ++ next ∷ rest)) (map (child node) (range_with_len a n)) ≡ 0
  none_past a zero past = refl
  none_past a (suc n) past =
      count_no (λ other. is_prefix other (node ++ next ∷ rest)) (child node a) (map (child node) (range_with_len (a + 1) n)) (child_begins node rest a next ∙ differ_by_test a next (λ e. omega arith))
      ∙ none_past (a + 1) n (omega arith)

  one_of : (a n : ℕ) → a ≤ next → next < a + n → count_by (λ other. is_prefix other (node ++ next ∷ rest)) (map (child node) (range_with_len a n)) ≡ 1
  one_of a zero from to = absurd (omega arith)
  one_of a (suc n) from to = elim (cases_eq a next) [
    | inl e ↦
        count_yes (λ other. is_prefix other (node ++ next ∷ rest)) (child node a) (map (child node) (range_with_len (a + 1) n)) (child_begins node rest a next ∙ eq-eqb a next e)
        ∙ ap (λ k. 1 + k) (none_past (a + 1) n (omega arith))
    | inr e ↦
        count_no (λ other. is_prefix other (node ++ next ∷ rest)) (child node a) (map (child node) (range_with_len (a + 1) n)) (child_begins node rest a next ∙ differ_by_test a next e)
        ∙ one_of (a + 1) n (omega arith) (omega arith)
  ]

-- the children of a node, by their steps
all_children : (p : ProblemParts) (node : List ℕ) (P : List ℕ → Type 0) → ((step : ℕ) → step < length p.leads → P (child node step)) → All P (children p node)
all_children p node P each = All-map P (child node) (range_with_len 0 (length p.leads)) (All-from_get_or (λ step. P (child node step)) (range_with_len 0 (length p.leads)) 0 (λ i inside.
    let at : get_or (range_with_len 0 (length p.leads)) i 0 ≡ 0 + i = get_or-range_with_len 0 (length p.leads) i 0 (omega (arith, length-range_with_len 0 (length p.leads))) in
    each (get_or (range_with_len 0 (length p.leads)) i 0) (omega (arith, length-range_with_len 0 (length p.leads)))))

-- a filtered list of images
filter_mapped : {X Y : Type 0} (f : X → Y) (keeps : Y → Bool) (xs : List X) → filter keeps (map f xs) ≡ map f (filter (λ x. keeps (f x)) xs)
filter_mapped f keeps [] = refl
filter_mapped f keeps (x ∷ xs) = by (keeps (f x)) (filter_mapped f keeps xs)
  where
    by : (b : Bool) → filter keeps (map f xs) ≡ map f (filter (λ y. keeps (f y)) xs) → cond b (f x ∷ filter keeps (map f xs)) (filter keeps (map f xs)) ≡ map f (cond b (x ∷ filter (λ y. keeps (f y)) xs) (filter (λ y. keeps (f y)) xs))
    by true rest = ap (λ l. f x ∷ l) rest
    by false rest = rest

-- steps in a range ascend
range_ascends : (a n : ℕ) → IsStrictlyIncreasing (range_with_len a n)
range_ascends a n k inside =
    let short : k + 1 < n = omega (arith, length-range_with_len a n) in
    omega (arith, get_or-range_with_len a n k 0 (omega arith), get_or-range_with_len a n (k + 1) 0 short)

module _ (p : ProblemParts) (most : ℕ) (node : List ℕ) (sound : IsSound p) (dies : (other : List ℕ) (why : Reason) → dead p most other ≡ Some why → HasNoneBelow p other) where
  -- a dead node is above no kept touch
  dead_above_none : (calling : List ℕ) → Kept p calling → (other : List ℕ) → is_none (dead p most other) ≡ false → is_above p other calling ≡ false
  dead_above_none calling kept other h = by (dead p most other) refl h
    where
      by : (o : Option Reason) → dead p most other ≡ o → is_none o ≡ false → is_above p other calling ≡ false
      by None e h' = absurd (true≢false h')
      by (Some why) e h' = false_from_ne_true (is_above p other calling) (λ above. dies other why e calling kept above)

  -- so the live children are above it as often as all are
  live_count : (calling : List ℕ) → Kept p calling → nodes_above p (live_children p most node) calling ≡ nodes_above p (children p node) calling
  live_count calling kept = count_filtered (λ other. is_above p other calling) (λ other. is_none (dead p most other)) (children p node) (dead_above_none calling kept)

  -- the part of the node's touch is the node
  part_is : (calling : List ℕ) → calling ≡ touch_of p node → part_of p calling ≡ node
  part_is calling e = by (parts_of p) (some_parts p sound) e
    where
      by : (parts : ℕ) → 1 ≤ parts → calling ≡ words 0 parts node → take (length calling / parts) calling ≡ node
      by zero some e' = absurd (omega arith)
      by (suc parts) some e' = first_word parts calling node e'

  -- how often a touch was found in this turn
  found_once : (calling : List ℕ) → Kept p calling → calling ≡ touch_of p node → times_found (touch_found p node) calling ≡ 1
  found_once calling kept e =
      let passes : is_kept p (touch_of p node) ≡ true = (is_kept_decided p (touch_of p node)).1 (subst (Kept p) e kept) in
      ap (λ b. times_found (cond b (touch_of p node ∷ []) []) calling) passes
      ∙ count_yes (bytes_eq calling) (touch_of p node) [] ((bytes_eq-Decides calling (touch_of p node)).1 e)

  found_never : (calling : List ℕ) → calling ≢ touch_of p node → times_found (touch_found p node) calling ≡ 0
  found_never calling differs = by (is_kept p (touch_of p node))
    where
      by : (b : Bool) → times_found (cond b (touch_of p node ∷ []) []) calling ≡ 0
      by true = count_no (bytes_eq calling) (touch_of p node) [] (false_from_ne_true (bytes_eq calling (touch_of p node)) (λ h. differs ((bytes_eq-Decides calling (touch_of p node)).0 h)))
      by false = refl

  -- where the node is above a kept touch, that touch is the node's or has one child above it
  each_above : (calling : List ℕ) → Kept p calling → is_above p node calling ≡ true → 1 ≡ times_found (touch_found p node) calling + nodes_above p (live_children p most node) calling
  each_above calling kept above =
      let is : Below p node calling = below p node calling sound kept above in
      by is.rest is.part is.whole (rest_steps p node calling sound is)
    where
      by : (rest : List ℕ) → part_of p calling ≡ node ++ rest → calling ≡ words 0 (parts_of p) (node ++ rest) → HasSteps p rest → 1 ≡ times_found (touch_found p node) calling + nodes_above p (live_children p most node) calling
      by [] part whole steps =
          let one : times_found (touch_found p node) calling ≡ 1 = found_once calling kept (whole ∙ ap (words 0 (parts_of p)) (append-nil node)) in
          let none : nodes_above p (children p node) calling ≡ 0 = count_none (λ other. is_above p other calling) (children p node)
          (all_children p node (λ other. is_above p other calling ≡ false) (λ step inside. ap (is_prefix (child node step)) (part ∙ append-nil node) ∙ child_of_itself node step)) in
          omega (arith, live_count calling kept)
      by (next ∷ rest) part whole steps =
          let none : times_found (touch_found p node) calling ≡ 0 = found_never calling (λ e. not_longer node rest next (sym (part_is calling e) ∙ part)) in
          let one : nodes_above p (children p node) calling ≡ 1 = ap (λ steps'. count_by (λ other. is_prefix other steps') (children p node)) part
          ∙ one_of node rest next 0 (length p.leads) (omega arith) (let first : next < length p.leads = All-head (λ s. s < length p.leads) next rest steps in omega arith) in
          omega (arith, live_count calling kept)

  -- where it is not, neither is
  each_not_above : (calling : List ℕ) → Kept p calling → is_above p node calling ≡ false → 0 ≡ times_found (touch_found p node) calling + nodes_above p (live_children p most node) calling
  each_not_above calling kept h =
      let never : times_found (touch_found p node) calling ≡ 0 = found_never calling (λ e. true≢false (sym (ap (is_prefix node) (part_is calling e) ∙ begins_itself node) ∙ h)) in
      let none : nodes_above p (children p node) calling ≡ 0 = count_none (λ other. is_above p other calling) (children p node)
      (all_children p node (λ other. is_above p other calling ≡ false) (λ step inside.
      false_from_ne_true (is_above p (child node step) calling) (λ above. true≢false (sym (begins_onward node (child node step) (part_of p calling) (begins_child node step) above) ∙ h)))) in
      omega (arith, live_count calling kept)

  each : (calling : List ℕ) → Kept p calling → nodes_above p (node ∷ []) calling ≡ times_found (touch_found p node) calling + nodes_above p (live_children p most node) calling
  each calling kept = by (is_above p node calling) refl
    where
      by : (b : Bool) → is_above p node calling ≡ b → nodes_above p (node ∷ []) calling ≡ times_found (touch_found p node) calling + nodes_above p (live_children p most node) calling
      by true h = count_yes (λ other. is_above p other calling) node [] h ∙ each_above calling kept h
      by false h = count_no (λ other. is_above p other calling) node [] h ∙ each_not_above calling kept h

  -- what was found is kept, and has the node above it
  found_kept : All (λ calling. Kept p calling × (1 ≤ nodes_above p (node ∷ []) calling)) (touch_found p node)
  found_kept = by (is_kept p (touch_of p node)) refl
    where
      here : 1 ≤ nodes_above p (node ∷ []) (touch_of p node)
      here = omega (arith, count_yes (λ other. is_above p other (touch_of p node)) node [] (ap (is_prefix node) (part_is (touch_of p node) refl) ∙ begins_itself node))

      by : (b : Bool) → is_kept p (touch_of p node) ≡ b → All (λ calling. Kept p calling × (1 ≤ nodes_above p (node ∷ []) calling)) (cond b (touch_of p node ∷ []) [])
      by true h = All-cons (λ calling. Kept p calling × (1 ≤ nodes_above p (node ∷ []) calling)) (touch_of p node) [] ((is_kept_decided p (touch_of p node)).0 h, here) (All-nil (λ calling. Kept p calling × (1 ≤ nodes_above p (node ∷ []) calling)))
      by false h = All-nil (λ calling. Kept p calling × (1 ≤ nodes_above p (node ∷ []) calling))

  -- the live children are valid, and the node begins them
  live_valid : IsValid p node → All (λ other. IsValid p other × Any (λ above. is_prefix above other ≡ true) (node ∷ [])) (live_children p most node)
  live_valid valid k d inside =
      let other : List ℕ = get_or (live_children p most node) k d in
      let steps : HasSteps p other = All-filter (λ next. is_none (dead p most next)) (HasSteps p) (children p node) (all_children p node (HasSteps p) (λ step known.
      All-append (λ s. s < length p.leads) node (step ∷ []) valid.steps (All-cons (λ s. s < length p.leads) step [] known (All-nil (λ s. s < length p.leads))))) k d inside in
      let begins : is_prefix node other ≡ true = All-filter (λ next. is_none (dead p most next)) (λ next. is_prefix node next ≡ true) (children p node)
      (all_children p node (λ next. is_prefix node next ≡ true) (λ step known. begins_child node step)) k d inside in
      (record { steps = steps; short = live_short p most other (filter_passes (λ next. is_none (dead p most next)) (children p node) k d inside) }, (0, node, omega arith, refl, begins))

  -- no live child begins another
  live_apart : (i j : ℕ) → i < length (live_children p most node) → j < length (live_children p most node) → i ≢ j → is_prefix (get_or (live_children p most node) i []) (get_or (live_children p most node) j []) ≡ false
  live_apart i j one two differ =
      let steps : List ℕ = filter (λ step. is_none (dead p most (child node step))) (range_with_len 0 (length p.leads)) in
      let are : live_children p most node ≡ map (child node) steps = filter_mapped (child node) (λ next. is_none (dead p most next)) (range_with_len 0 (length p.leads)) in
      let up : IsStrictlySortedBy nat_cmp steps = IsStrictlySortedBy-filter nat_cmp (λ step. is_none (dead p most (child node step))) (range_with_len 0 (length p.leads)) (sorted_from_strictly_increasing (range_with_len 0 (length p.leads)) (range_ascends 0 (length p.leads))) in
      let long : length (live_children p most node) ≡ length steps = ap length are ∙ length-map steps (child node) in
      let first : get_or (live_children p most node) i [] ≡ child node (get_or steps i 0) = ap (λ l. get_or l i []) are ∙ get_or-map (child node) steps i 0 [] (omega arith) in
      let second : get_or (live_children p most node) j [] ≡ child node (get_or steps j 0) = ap (λ l. get_or l j []) are ∙ get_or-map (child node) steps j 0 [] (omega arith) in
      let apart : get_or steps i 0 ≢ get_or steps j 0 = λ e. elim (cases_lt i j) [
        | inl less ↦ omega (arith, below_from_sorted steps i j 0 up less (omega arith))
        | inr more ↦ omega (arith, below_from_sorted steps j i 0 up (omega arith) (omega arith))
      ] in
      ap₂ is_prefix first second ∙ child_begins node [] (get_or steps i 0) (get_or steps j 0) ∙ differ_by_test (get_or steps i 0) (get_or steps j 0) apart

  -- and none is above the node's touch
  found_apart : (i j : ℕ) → i < length (live_children p most node) → j < length (touch_found p node) → is_above p (get_or (live_children p most node) i []) (get_or (touch_found p node) j []) ≡ false
  found_apart i j one two = by (is_kept p (touch_of p node)) two
    where
      below_none : is_above p (get_or (live_children p most node) i []) (touch_of p node) ≡ false
      below_none = All-filter (λ next. is_none (dead p most next)) (λ next. is_above p next (touch_of p node) ≡ false) (children p node)
          (all_children p node (λ next. is_above p next (touch_of p node) ≡ false) (λ step known. ap (is_prefix (child node step)) (part_is (touch_of p node) refl) ∙ child_of_itself node step)) i [] one

      by : (b : Bool) → j < length (cond b (touch_of p node ∷ []) []) → is_above p (get_or (live_children p most node) i []) (get_or (cond b (touch_of p node ∷ []) []) j []) ≡ false
      by true h = let first : j ≡ 0 = omega arith in subst (λ (k : ℕ). is_above p (get_or (live_children p most node) i []) (get_or (touch_of p node ∷ []) k []) ≡ false) (sym first) below_none
      by false h = absurd (omega arith)

  -- one turn
  pub turn_splits : IsValid p node → Splits p (node ∷ []) (touch_found p node) (live_children p most node)
  turn_splits valid = record {
    each = each;
    found_kept = found_kept;
    rest_valid = live_valid valid;
    independent = record { nodes_apart = live_apart; found_apart = found_apart };
  }
