-- Where a verdict that closes a node holds, no kept touch has the node above it.
use Rattle.std.proofs.Common.{◌≡◌, ℕ, ◌+◌, ◌-◌, ◌*◌, ◌<◌, ◌≤◌, Bool, true, false, not, ◌&&◌, ◌||◌, ◌↔◌, pos, int_lt, nat_lt, nat_eq, List, [], ◌∷◌, length, get_or, take, drop, is_lt, nat_cmp, inl, inr, refl, sym, ap, ◌∙◌, arith, length-drop, ltb-true}
use Rattle.std.specs.Cmp.Lexicographic.{pointwise, slice_cmp}
use Rattle.std.specs.List.{list_any, range_with_len}
use Rattle.std.proofs.lemmas.Bool.{true≢false, false_from_ne_true, and_parts, and_from, cases_lt}
use Rattle.std.proofs.lemmas.List.{get_or-take, get_or-drop, get_or_default, length-take-le}
use Rattle.std.proofs.lemmas.List.Folds.{list_any-from_Any}
use Rattle.std.proofs.lemmas.List.FromFn.{get_or-range_with_len, length-range_with_len}
use Rattle.std.proofs.lemmas.Slice.Eq.{bytes_eq-Decides}
use Rattle.cr_row.specs.Rows.{Places, rounds, after}
use Rattle.cr_model.specs.declared.query.Count.{Count}
use Rattle.cr_model.specs.Problems.{ProblemParts}
use Rattle.cr_model.specs.Callings.{AllDiffer, changes_of_all, rows_from, rows_of, length_of}
use Rattle.cr_model.specs.Queries.{cap, leads_marked, leads_lettered, rows_fitting}
use Rattle.cr_model.specs.Right.{count_at, method_count_at, pattern_at}
use Rattle.cr_model.specs.Decided.{rows_differ}
use Rattle.cr_model.specs.Dead.{HasNoneBelow, parts_of, leads_left, is_long, is_again, has_rounds, is_round, is_too_many, is_too_few, turns_back, turn_free, is_turned_back}
use Rattle.cr_audit.specs.declared.verdict.Item.{Item}
use Rattle.cr_audit.specs.declared.verdict.Item.TheVariants as item
use Rattle.cr_audit.specs.declared.verdict.Verdict.{Verdict}
use Rattle.cr_audit.specs.declared.verdict.Verdict.TheVariants as verdict
use Rattle.cr_audit.specs.Verdicts.{is_valid, row_at, is_again_at, is_round_at, has_too_many, has_too_few, turns_back_at, HoldsVerdict}

-- what the model says of reasons
pub record Reasons (p : ProblemParts) : Type 0 where
  pub differ : (rows : List (List ℕ)) → (rows_differ rows ≡ true) ↔ AllDiffer rows
  pub long : (node : List ℕ) → is_long p node ≡ true → HasNoneBelow p node
  pub again : (node : List ℕ) → is_again p node ≡ true → HasNoneBelow p node
  pub round : (node : List ℕ) → is_round p node ≡ true → HasNoneBelow p node
  pub many : (node : List ℕ) → is_too_many p node ≡ true → HasNoneBelow p node
  pub few : (node : List ℕ) → is_too_few p node ≡ true → HasNoneBelow p node
  pub back : (node : List ℕ) → is_turned_back p node ≡ true → HasNoneBelow p node

-- one of two tests passes
or_first : (a b : Bool) → a ≡ true → (a || b) ≡ true
or_first true b h = refl
or_first false b h = absurd (true≢false (sym h))

or_second : (a b : Bool) → b ≡ true → (a || b) ≡ true
or_second true b h = refl
or_second false b h = h

-- some element at an index passes
any_at : {X : Type 0} (test : X → Bool) (xs : List X) (i : ℕ) (d : X) → i < length xs → test (get_or xs i d) ≡ true → list_any test xs ≡ true
any_at test xs i d inside passes = list_any-from_Any test xs (i, get_or xs i d, inside, get_or_default xs i (get_or xs i d) d inside, passes)

-- rows are as many as changes
as_many : (row : List ℕ) (changes : List Places) → length (rows_from row changes) ≡ length changes
as_many row [] = refl
as_many row (change ∷ changes) = omega (arith, as_many (after change row) changes)

rows_counted : (p : ProblemParts) (node : List ℕ) → length (rows_of p node) ≡ length_of p node
rows_counted p node = as_many (rounds p.stage) (changes_of_all p node)

module _ (p : ProblemParts) (node : List ℕ) where
  -- again
  twice : ((rows : List (List ℕ)) → (rows_differ rows ≡ true) ↔ AllDiffer rows) → (i j : ℕ) → is_again_at p node i j ≡ true → is_again p node ≡ true
  twice differ i j h =
      let (less, more) = and_parts (nat_lt i j) (nat_lt j (length_of p node) && pointwise nat_eq (row_at p node i) (row_at p node j)) h in
      let (inside, same) = and_parts (nat_lt j (length_of p node)) (pointwise nat_eq (row_at p node i) (row_at p node j)) more in
      let below : j < length_of p node = ltb-true j (length_of p node) inside in
      ap not (false_from_ne_true (rows_differ (rows_of p node)) (λ all.
      (differ (rows_of p node)).0 all i j (ltb-true i j less) (omega (arith, rows_counted p node)) ((bytes_eq-Decides (row_at p node i) (row_at p node j)).0 same)))

  -- rounds
  is_rounds_at : ℕ → Type 0
  is_rounds_at i = pointwise nat_eq (row_at p node i) (rounds p.stage) ≡ true

  rounds_there : (i : ℕ) → pointwise nat_eq (row_at p node i) (rounds p.stage) ≡ true → rounds p.stage ≡ row_at p node i
  rounds_there i same = sym ((bytes_eq-Decides (row_at p node i) (rounds p.stage)).0 same)

  round_before : (i : ℕ) → i + 1 < length_of p node → pointwise nat_eq (row_at p node i) (rounds p.stage) ≡ true → has_rounds p (take (length (rows_of p node) - 1) (rows_of p node)) ≡ true
  round_before i inside same =
      let n : ℕ = length (rows_of p node) - 1 in
      let long = rows_counted p node in
      any_at (pointwise nat_eq (rounds p.stage)) (take n (rows_of p node)) i [] (omega (arith, length-take-le n (rows_of p node)))
      ((bytes_eq-Decides (rounds p.stage) (get_or (take n (rows_of p node)) i [])).1 (rounds_there i same ∙ sym (get_or-take n (rows_of p node) i [] (omega arith))))

  round_last : (i : ℕ) → i < length_of p node → (i + 1 < length_of p node → ⊥) → pointwise nat_eq (row_at p node i) (rounds p.stage) ≡ true → has_rounds p (drop (length (rows_of p node) - 1) (rows_of p node)) ≡ true
  round_last i inside last same =
      let n : ℕ = length (rows_of p node) - 1 in
      let long = rows_counted p node in
      let place : i ≡ n + 0 = at_end long in
      any_at (pointwise nat_eq (rounds p.stage)) (drop n (rows_of p node)) 0 [] (omega (arith, length-drop n (rows_of p node)))
      ((bytes_eq-Decides (rounds p.stage) (get_or (drop n (rows_of p node)) 0 [])).1
      (rounds_there i same ∙ ap (λ k. get_or (rows_of p node) k []) place ∙ sym (get_or-drop n (rows_of p node) 0 [])))
    where
      at_end : length (rows_of p node) ≡ length_of p node → i ≡ (length (rows_of p node) - 1) + 0
      at_end long = elim (cases_lt (i + 1) (length_of p node)) [
        | inl less ↦ absurd (last less)
        | inr more ↦ omega arith
      ]

  comes_round : (i : ℕ) → is_round_at p node i ≡ true → is_round p node ≡ true
  comes_round i h =
      let (inside, more) = and_parts (nat_lt i (length_of p node)) (pointwise nat_eq (row_at p node i) (rounds p.stage) && (nat_lt (i + 1) (length_of p node) || nat_lt 1 (parts_of p))) h in
      let (same, early) = and_parts (pointwise nat_eq (row_at p node i) (rounds p.stage)) (nat_lt (i + 1) (length_of p node) || nat_lt 1 (parts_of p)) more in
      elim (cases_lt (i + 1) (length_of p node)) [
        | inl less ↦ or_first (has_rounds p (take (length (rows_of p node) - 1) (rows_of p node))) (has_rounds p (drop (length (rows_of p node) - 1) (rows_of p node)) && nat_lt 1 (parts_of p)) (round_before i less same)
        | inr late ↦ or_second (has_rounds p (take (length (rows_of p node) - 1) (rows_of p node))) (has_rounds p (drop (length (rows_of p node) - 1) (rows_of p node)) && nat_lt 1 (parts_of p))
            (and_from (has_rounds p (drop (length (rows_of p node) - 1) (rows_of p node))) (nat_lt 1 (parts_of p))
            (round_last i (ltb-true i (length_of p node) inside) (λ less. absurd (omega arith)) same)
            (several (nat_lt (i + 1) (length_of p node)) refl late early))
      ]
    where
      several : (b : Bool) → nat_lt (i + 1) (length_of p node) ≡ b → length_of p node ≤ i + 1 → (b || nat_lt 1 (parts_of p)) ≡ true → nat_lt 1 (parts_of p) ≡ true
      several true e late early = let less : i + 1 < length_of p node = ltb-true (i + 1) (length_of p node) e in absurd (omega arith)
      several false e late early = early

  -- many
  marks_above : Count → Bool
  marks_above count = int_lt count.max (pos (parts_of p * leads_marked p count.mark node))

  exceeds : (of : Item) → has_too_many p node of ≡ true → is_too_many p node ≡ true
  exceeds (item.Count i) h =
      let counts = p.query.counts in
      let (inside, above) = and_parts (nat_lt i (length p.query.counts)) (int_lt (count_at p.query.counts i).max (pos (parts_of p * leads_marked p (count_at p.query.counts i).mark node))) h in
      or_first (list_any (λ count. int_lt count.max (pos (parts_of p * leads_marked p count.mark node))) p.query.counts) _
      (any_at (λ count. int_lt count.max (pos (parts_of p * leads_marked p count.mark node))) p.query.counts i _ (ltb-true i (length p.query.counts) inside) above)
  exceeds (item.Leads i) h =
      let (inside, above) = and_parts (nat_lt i (length p.query.method_counts)) (int_lt (method_count_at p.query.method_counts i).max (pos (parts_of p * leads_lettered p (method_count_at p.query.method_counts i).letter node))) h in
      or_second (list_any (λ count. int_lt count.max (pos (parts_of p * leads_marked p count.mark node))) p.query.counts) _
      (or_first (list_any (λ count. int_lt count.max (pos (parts_of p * leads_lettered p count.letter node))) p.query.method_counts) _
      (any_at (λ count. int_lt count.max (pos (parts_of p * leads_lettered p count.letter node))) p.query.method_counts i _ (ltb-true i (length p.query.method_counts) inside) above))
  exceeds (item.Rows i) h =
      let (inside, above) = and_parts (nat_lt i (length p.query.patterns)) (int_lt (pattern_at p.query.patterns i).max (pos (rows_fitting (pattern_at p.query.patterns i).cells (rows_of p node)))) h in
      or_second (list_any (λ count. int_lt count.max (pos (parts_of p * leads_marked p count.mark node))) p.query.counts) _
      (or_second (list_any (λ count. int_lt count.max (pos (parts_of p * leads_lettered p count.letter node))) p.query.method_counts) _
      (or_first (list_any (λ pattern. int_lt pattern.max (pos (rows_fitting pattern.cells (rows_of p node)))) p.query.patterns) _
      (any_at (λ pattern. int_lt pattern.max (pos (rows_fitting pattern.cells (rows_of p node)))) p.query.patterns i _ (ltb-true i (length p.query.patterns) inside) above)))
  exceeds item.Com h =
      or_second (list_any (λ count. int_lt count.max (pos (parts_of p * leads_marked p count.mark node))) p.query.counts) _
      (or_second (list_any (λ count. int_lt count.max (pos (parts_of p * leads_lettered p count.letter node))) p.query.method_counts) _
      (or_second (list_any (λ pattern. int_lt pattern.max (pos (rows_fitting pattern.cells (rows_of p node)))) p.query.patterns) _ h))

  -- few
  falls_short : (of : Item) → has_too_few p node of ≡ true → is_too_few p node ≡ true
  falls_short (item.Count i) h =
      let (inside, below) = and_parts (nat_lt i (length p.query.counts)) (int_lt (pos (parts_of p * (leads_marked p (count_at p.query.counts i).mark node + leads_left p node))) (count_at p.query.counts i).min) h in
      or_first (list_any (λ count. int_lt (pos (parts_of p * (leads_marked p count.mark node + leads_left p node))) count.min) p.query.counts) _
      (any_at (λ count. int_lt (pos (parts_of p * (leads_marked p count.mark node + leads_left p node))) count.min) p.query.counts i _ (ltb-true i (length p.query.counts) inside) below)
  falls_short (item.Leads i) h =
      let (inside, below) = and_parts (nat_lt i (length p.query.method_counts)) (int_lt (pos (parts_of p * (leads_lettered p (method_count_at p.query.method_counts i).letter node + leads_left p node))) (method_count_at p.query.method_counts i).min) h in
      or_second (list_any (λ count. int_lt (pos (parts_of p * (leads_marked p count.mark node + leads_left p node))) count.min) p.query.counts) _
      (or_first (list_any (λ count. int_lt (pos (parts_of p * (leads_lettered p count.letter node + leads_left p node))) count.min) p.query.method_counts) _
      (any_at (λ count. int_lt (pos (parts_of p * (leads_lettered p count.letter node + leads_left p node))) count.min) p.query.method_counts i _ (ltb-true i (length p.query.method_counts) inside) below))
  falls_short (item.Rows i) h =
      let (inside, below) = and_parts (nat_lt i (length p.query.patterns)) (int_lt (pos (rows_fitting (pattern_at p.query.patterns i).cells (rows_of p node) + (cap p - length_of p node))) (pattern_at p.query.patterns i).min) h in
      or_second (list_any (λ count. int_lt (pos (parts_of p * (leads_marked p count.mark node + leads_left p node))) count.min) p.query.counts) _
      (or_second (list_any (λ count. int_lt (pos (parts_of p * (leads_lettered p count.letter node + leads_left p node))) count.min) p.query.method_counts) _
      (or_first (list_any (λ pattern. int_lt (pos (rows_fitting pattern.cells (rows_of p node) + (cap p - length_of p node))) pattern.min) p.query.patterns) _
      (any_at (λ pattern. int_lt (pos (rows_fitting pattern.cells (rows_of p node) + (cap p - length_of p node))) pattern.min) p.query.patterns i _ (ltb-true i (length p.query.patterns) inside) below)))
  falls_short item.Com h =
      or_second (list_any (λ count. int_lt (pos (parts_of p * (leads_marked p count.mark node + leads_left p node))) count.min) p.query.counts) _
      (or_second (list_any (λ count. int_lt (pos (parts_of p * (leads_lettered p count.letter node + leads_left p node))) count.min) p.query.method_counts) _
      (or_second (list_any (λ pattern. int_lt (pos (rows_fitting pattern.cells (rows_of p node) + (cap p - length_of p node))) pattern.min) p.query.patterns) _ h))

  -- back
  turns : (k : ℕ) → turns_back_at p node k ≡ true → is_turned_back p node ≡ true
  turns k h =
      let (free, more) = and_parts (turn_free p.query) (nat_lt 0 k && (nat_lt k (length node) && is_lt (slice_cmp nat_cmp (drop k node) (take (length node - k) node)))) h in
      let (some, more') = and_parts (nat_lt 0 k) (nat_lt k (length node) && is_lt (slice_cmp nat_cmp (drop k node) (take (length node - k) node))) more in
      let (inside, less) = and_parts (nat_lt k (length node)) (is_lt (slice_cmp nat_cmp (drop k node) (take (length node - k) node))) more' in
      let from : 0 < k = ltb-true 0 k some in
      let to : k < length node = ltb-true k (length node) inside in
      let place : get_or (range_with_len 1 (length node - 1)) (k - 1) 0 ≡ k = get_or-range_with_len 1 (length node - 1) (k - 1) 0 (omega arith) ∙ omega arith in
      and_from (turn_free p.query) (turns_back node) free
      (any_at (λ j. is_lt (slice_cmp nat_cmp (drop j node) (take (length node - j) node))) (range_with_len 1 (length node - 1)) (k - 1) 0 (omega (arith, length-range_with_len 1 (length node - 1)))
      (ap (λ j. is_lt (slice_cmp nat_cmp (drop j node) (take (length node - j) node))) place ∙ less))

  -- every verdict but `open`
  pub closed : Reasons p → (why : Verdict) → HoldsVerdict p node why → (why ≡ verdict.Open → ⊥) → HasNoneBelow p node
  closed reasons verdict.Open h closes = absurd (closes refl)
  closed reasons verdict.Long h closes = reasons.long node h
  closed reasons (verdict.Again i j) h closes = reasons.again node (twice reasons.differ i j h)
  closed reasons (verdict.Home i) h closes = reasons.round node (comes_round i h)
  closed reasons (verdict.Many of) h closes = reasons.many node (exceeds of (and_parts (is_valid p node) (has_too_many p node of) h).1)
  closed reasons (verdict.Few of) h closes = reasons.few node (falls_short of (and_parts (is_valid p node) (has_too_few p node of) h).1)
  closed reasons (verdict.Back k) h closes = reasons.back node (turns k h)
