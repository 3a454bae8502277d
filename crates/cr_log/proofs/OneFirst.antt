-- One verdict is the first that holds of a node.
use Rattle.std.proofs.Common.{◌≡◌, ◌≢◌, ℕ, ◌<◌, true, false, ◌&&◌, List, [], ◌∷◌, ◌++◌, length, All, get_or, nat_lt, nat_eq, inl, inr, refl, sym, ap, ap₂, ◌∙◌, subst, arith}
use Rattle.std.proofs.lemmas.Bool.{true≢false, and_from, and_parts, ltb-true, lt-ltb, ltb-false, cases_order, eq-eqb, or_parts, false_from_ne_true}
use Rattle.std.proofs.lemmas.Slice.Eq.{bytes_eq-Decides}
use Rattle.std.specs.Cmp.Lexicographic.{pointwise}
use Rattle.cr_model.specs.Problems.{ProblemParts}
use Rattle.cr_model.specs.Callings.{length_of}
use Rattle.cr_audit.specs.declared.verdict.Item.TheVariants as item
use Rattle.cr_audit.specs.declared.verdict.Verdict.{Verdict}
use Rattle.cr_audit.specs.declared.verdict.Verdict.TheVariants as verdict
use Rattle.cr_audit.specs.Verdicts.{row_at, is_again_at, HoldsVerdict}
use Rattle.cr_audit.specs.Logs.{LineParts, opened_by, AreDue}
use Rattle.std.proofs.lemmas.List.Elements.{All-head, All-tail}
use Rattle.cr_log.specs.FirstVerdicts.{rank_of, index_of, is_less, comes_before, IsFirstVerdict, IsFirstLine}

-- two numbers of which neither pair is less are the same
neither_less : (a x b y : ℕ) → is_less a x b y ≡ false → is_less b y a x ≡ false → (a ≡ b) × (x ≡ y)
neither_less a x b y one other =
    let (one', more) = or_parts (nat_lt a b) (nat_eq a b && nat_lt x y) one in
    let (other', more') = or_parts (nat_lt b a) (nat_eq b a && nat_lt y x) other in
    let same : a ≡ b = omega (arith, ltb-false a b one', ltb-false b a other') in (
      same,
      elim (cases_order x y) [
        | inl e ↦ e
        | inr differ ↦ elim differ [
          | inl less ↦ absurd (true≢false (sym (and_from (nat_eq a b) (nat_lt x y) (eq-eqb a b same) (lt-ltb x y less)) ∙ more))
          | inr less ↦ absurd (true≢false (sym (and_from (nat_eq b a) (nat_lt y x) (eq-eqb b a (sym same)) (lt-ltb y x less)) ∙ more'))
        ]
      ],
    )

-- a verdict by its rank and its index, and by the first of two rows
abbrev first_row : Verdict → ℕ
first_row verdict.Open = 0
first_row verdict.Long = 0
first_row (verdict.Again i j) = i
first_row (verdict.Home i) = 0
first_row (verdict.Many of) = 0
first_row (verdict.Few of) = 0
first_row (verdict.Back k) = 0

abbrev made : ℕ → ℕ → ℕ → Verdict
made rank index first = get_or (
    verdict.Long ∷ verdict.Again first index ∷ verdict.Home index
    ∷ verdict.Many (item.Count index) ∷ verdict.Many (item.Leads index) ∷ verdict.Many (item.Rows index) ∷ verdict.Many item.Com
    ∷ verdict.Few (item.Count index) ∷ verdict.Few (item.Leads index) ∷ verdict.Few (item.Rows index) ∷ verdict.Few item.Com
    ∷ verdict.Back index ∷ verdict.Open ∷ []) rank verdict.Long

is_made : (why : Verdict) → why ≡ made (rank_of why) (index_of why) (first_row why)
is_made verdict.Open = refl
is_made verdict.Long = refl
is_made (verdict.Again i j) = refl
is_made (verdict.Home i) = refl
is_made (verdict.Many (item.Count i)) = refl
is_made (verdict.Many (item.Leads i)) = refl
is_made (verdict.Many (item.Rows i)) = refl
is_made (verdict.Many item.Com) = refl
is_made (verdict.Few (item.Count i)) = refl
is_made (verdict.Few (item.Leads i)) = refl
is_made (verdict.Few (item.Rows i)) = refl
is_made (verdict.Few item.Com) = refl
is_made (verdict.Back k) = refl

module _ (p : ProblemParts) (node : List ℕ) where
  -- what holds does not come before the first
  not_before : (why other : Verdict) → IsFirstVerdict p node why → HoldsVerdict p node other → comes_before other why ≡ false
  not_before why other first holds = false_from_ne_true (comes_before other why) (λ h. true≢false (sym holds ∙ first.none other h))

  -- of two rows that are equal to a third, and stand before it, the second is equal to a row before
  none_between : (i k j : ℕ) → IsFirstVerdict p node (verdict.Again i j) → HoldsVerdict p node (verdict.Again k j) → i < k → ⊥
  none_between i k j first holds less =
      let (before, more) = and_parts (nat_lt i j) (nat_lt j (length_of p node) && pointwise nat_eq (row_at p node i) (row_at p node j)) first.holds in
      let (inside, same) = and_parts (nat_lt j (length_of p node)) (pointwise nat_eq (row_at p node i) (row_at p node j)) more in
      let (before', more') = and_parts (nat_lt k j) (nat_lt j (length_of p node) && pointwise nat_eq (row_at p node k) (row_at p node j)) holds in
      let (inside', same') = and_parts (nat_lt j (length_of p node)) (pointwise nat_eq (row_at p node k) (row_at p node j)) more' in
      let rows : row_at p node i ≡ row_at p node k = (bytes_eq-Decides (row_at p node i) (row_at p node j)).0 same ∙ sym ((bytes_eq-Decides (row_at p node k) (row_at p node j)).0 same') in
      let last : k < length_of p node = omega (arith, ltb-true k j before', ltb-true j (length_of p node) inside) in
      let again : is_again_at p node i k ≡ true = and_from (nat_lt i k) (nat_lt k (length_of p node) && pointwise nat_eq (row_at p node i) (row_at p node k)) (lt-ltb i k less)
      (and_from (nat_lt k (length_of p node)) (pointwise nat_eq (row_at p node i) (row_at p node k)) (lt-ltb k (length_of p node) last) ((bytes_eq-Decides (row_at p node i) (row_at p node k)).1 rows)) in
      true≢false (sym again ∙ first.none (verdict.Again i k) before')

  -- so the first of two equal rows is one
  one_row : (why other : Verdict) → IsFirstVerdict p node why → IsFirstVerdict p node other → rank_of why ≡ rank_of other → index_of why ≡ index_of other
      → first_row why ≡ first_row other
  one_row why other first next ranks indexes = by why other first next ranks indexes
    where
      equal_rows : (i k j l : ℕ) → IsFirstVerdict p node (verdict.Again i j) → IsFirstVerdict p node (verdict.Again k l) → j ≡ l → i ≡ k
      equal_rows i k j l one two e =
          let two' : IsFirstVerdict p node (verdict.Again k j) = subst (λ (n : ℕ). IsFirstVerdict p node (verdict.Again k n)) (sym e) two in
          elim (cases_order i k) [
            | inl same ↦ same
            | inr differ ↦ elim differ [
              | inl less ↦ absurd (none_between i k j one two'.holds less)
              | inr less ↦ absurd (none_between k i j two' one.holds less)
            ]
          ]

      else_none : (why : Verdict) → rank_of why ≢ 1 → first_row why ≡ 0
      else_none verdict.Open h = refl
      else_none verdict.Long h = refl
      else_none (verdict.Again i j) h = absurd (h refl)
      else_none (verdict.Home i) h = refl
      else_none (verdict.Many of) h = refl
      else_none (verdict.Few of) h = refl
      else_none (verdict.Back k) h = refl

      is_again : (why : Verdict) → rank_of why ≡ 1 → why ≡ verdict.Again (first_row why) (index_of why)
      is_again why e = is_made why ∙ ap (λ (r : ℕ). made r (index_of why) (first_row why)) e

      by : (why other : Verdict) → IsFirstVerdict p node why → IsFirstVerdict p node other → rank_of why ≡ rank_of other → index_of why ≡ index_of other
          → first_row why ≡ first_row other
      by why other one two ranks indexes = elim (cases_order (rank_of why) 1) [
        | inl e ↦ equal_rows (first_row why) (first_row other) (index_of why) (index_of other)
            (subst (IsFirstVerdict p node) (is_again why e) one) (subst (IsFirstVerdict p node) (is_again other (sym ranks ∙ e)) two) indexes
        | inr differ ↦
            let no_again : rank_of why ≢ 1 = λ e. elim differ [ inl less ↦ absurd (omega arith) | inr less ↦ absurd (omega arith) ] in
            else_none why no_again ∙ sym (else_none other (λ e. no_again (ranks ∙ e)))
      ]

  pub one_first : (why other : Verdict) → IsFirstVerdict p node why → IsFirstVerdict p node other → why ≡ other
  one_first why other first next =
      let (ranks, indexes) = neither_less (rank_of why) (index_of why) (rank_of other) (index_of other)
      (not_before other why next first.holds) (not_before why other first next.holds) in
      is_made why
      ∙ ap (λ (r : ℕ). made r (index_of why) (first_row why)) ranks
      ∙ ap (λ (n : ℕ). made (rank_of other) n (first_row why)) indexes
      ∙ ap (λ (i : ℕ). made (rank_of other) (index_of other) i) (one_row why other first next ranks indexes)
      ∙ sym (is_made other)

-- lines for the same nodes, with the first verdict each, are the same lines
pub one_log : (p : ProblemParts) (due : List (List ℕ)) (lines others : List LineParts) → AreDue p due lines [] → AreDue p due others []
    → All (IsFirstLine p) lines → All (IsFirstLine p) others → lines ≡ others
one_log p due [] [] one other first next = refl
one_log p [] (line ∷ lines) others one other first next = absurd one
one_log p [] [] (line ∷ others) one other first next = absurd other
one_log p (node ∷ due) [] (line ∷ others) one other first next = absurd (no_due node due one)
  where
    no_due : (node : List ℕ) (due : List (List ℕ)) → node ∷ due ≡ [] → ⊥
    no_due node due e = let none : length (node ∷ due) ≡ 0 = ap length e in absurd (omega arith)
one_log p (node ∷ due) (line ∷ lines) [] one other first next = absurd (no_due node due other)
  where
    no_due : (node : List ℕ) (due : List (List ℕ)) → node ∷ due ≡ [] → ⊥
    no_due node due e = let none : length (node ∷ due) ≡ 0 = ap length e in absurd (omega arith)
one_log p (node ∷ due) (line ∷ lines) (twin ∷ others) one other first next =
    let here = subst (λ (n : List ℕ). IsFirstVerdict p n line.verdict) one.0 (All-head (IsFirstLine p) line lines first) in
    let there = subst (λ (n : List ℕ). IsFirstVerdict p n twin.verdict) other.0 (All-head (IsFirstLine p) twin others next) in
    let same : line.verdict ≡ twin.verdict = one_first p node line.verdict twin.verdict here there in
    let nodes : line.node ≡ twin.node = one.0 ∙ sym other.0 in
    ap₂ (λ (l : LineParts) (ls : List LineParts). l ∷ ls) (λ i. record { node = nodes i; verdict = same i })
    (one_log p (opened_by p node line.verdict ++ due) lines others one.1
    (subst (λ (v : Verdict). AreDue p (opened_by p node v ++ due) others []) (sym same) other.1)
    (All-tail (IsFirstLine p) line lines first) (All-tail (IsFirstLine p) twin others next))
