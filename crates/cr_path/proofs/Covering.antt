-- Numbers among others, and what covers a row.
use Rattle.std.proofs.Common.{◌≡◌, ℕ, ◌+◌, ◌-◌, ◌<◌, Bool, true, nat_eq, List, [], ◌∷◌, ◌++◌, length, get_or, map, drop, inl, inr, refl, sym, ap, ◌∙◌, subst, arith, eq-eqb, eqb-true}
use Rattle.std.specs.Prelude.{All}
use Rattle.std.specs.Cmp.Lexicographic.{pointwise}
use Rattle.std.specs.List.{list_any, range_with_len}
use Rattle.std.proofs.lemmas.Bool.{or_cases, or_left, or_right, cases_order}
use Rattle.std.proofs.lemmas.Bool.Decides.{same_from_decides}
use Rattle.std.proofs.lemmas.Slice.Eq.{bytes_eq-Decides}
use Rattle.std.proofs.lemmas.List.{map-id}
use Rattle.std.proofs.lemmas.List.Elements.{All-head, All-tail, All-from_get_or, All-take, All-drop}
use Rattle.std.proofs.lemmas.List.Folds.{list_any_at}
use Rattle.std.proofs.lemmas.List.FromFn.{get_or-range_with_len, length-range_with_len, map-range_with_len_more}
use Rattle.cr_model.specs.Levels.{is_listed}
use Rattle.cr_rowset.specs.Stacks.{AllDiffer}
use Rattle.cr_path.specs.Covers.{CoversItself, StaysWithin, IsCover}
use Rattle.cr_path.specs.Rung.{rung_numbers}
use Rattle.cr_path.specs.declared.numbers.rung_leads.RungLead.{RungLead}

-- tests of which each passes where the other does
pub both_pass : (a b : Bool) → (a ≡ true → b ≡ true) → (b ≡ true → a ≡ true) → a ≡ b
both_pass a b there back = same_from_decides {P = b ≡ true} a b (there, back) ((λ e. e), (λ e. e))

-- a number stands among some
abbrev pub IsAmong : ℕ → List ℕ → Type 0
IsAmong n ns = list_any (nat_eq n) ns ≡ true

pub holds_among : (P : ℕ → Type 0) (ns : List ℕ) (n : ℕ) → All P ns → IsAmong n ns → P n
holds_among P [] n all among = absurd (cc)
holds_among P (m ∷ ns) n all among = elim (or_cases (nat_eq n m) (list_any (nat_eq n) ns) among) [
  | inl same ↦ subst P (sym (eqb-true n m same)) (All-head P m ns all)
  | inr later ↦ holds_among P ns n (All-tail P m ns all) later
]

-- some item of a mapped list passes where the image of a number among them does
pub any_from : {X : Type 0} (test : X → Bool) (f : ℕ → X) (ns : List ℕ) → list_any test (map f ns) ≡ true → (n : ℕ) × IsAmong n ns × (test (f n) ≡ true)
any_from test f [] passes = absurd (cc)
any_from test f (m ∷ ns) passes = elim (or_cases (test (f m)) (list_any test (map f ns)) passes) [
  | inl here ↦ (m, or_left (nat_eq m m) (list_any (nat_eq m) ns) (eq-eqb m m refl), here)
  | inr later ↦
      let found = any_from test f ns later in
      (found.0, or_right (nat_eq found.0 m) (list_any (nat_eq found.0) ns) found.1, found.2)
]

pub any_at : {X : Type 0} (test : X → Bool) (f : ℕ → X) (ns : List ℕ) (n : ℕ) → IsAmong n ns → test (f n) ≡ true → list_any test (map f ns) ≡ true
any_at test f [] n among passes = absurd (cc)
any_at test f (m ∷ ns) n among passes = elim (or_cases (nat_eq n m) (list_any (nat_eq n) ns) among) [
  | inl same ↦ or_left (test (f m)) (list_any test (map f ns)) (subst (λ k. test (f k) ≡ true) (eqb-true n m same) passes)
  | inr later ↦ or_right (test (f m)) (list_any test (map f ns)) (any_at test f ns n later passes)
]

-- rows that differ, by their numbers
module _ (rows : List (List ℕ)) (differ : AllDiffer rows) where
  abbrev row_at : ℕ → List ℕ
  row_at n = get_or rows n []

  one_number : (i j : ℕ) → i < length rows → j < length rows → row_at i ≡ row_at j → i ≡ j
  one_number i j i_in j_in same = elim (cases_order i j) [
    | inl e ↦ e
    | inr (inl less) ↦ absurd (differ i j less j_in same)
    | inr (inr more) ↦ absurd (differ j i more i_in (sym same))
  ]

  -- a row is one of those with some numbers where its number is one of them
  pub among_listed : (ns : List ℕ) (n : ℕ) → IsAmong n ns → is_listed (map row_at ns) (row_at n) ≡ true
  among_listed ns n among = any_at (pointwise nat_eq (row_at n)) row_at ns n among ((bytes_eq-Decides (row_at n) (row_at n)).1 refl)

  pub listed_among : (ns : List ℕ) (n : ℕ) → All (λ m. m < length rows) ns → n < length rows → is_listed (map row_at ns) (row_at n) ≡ true → IsAmong n ns
  listed_among ns n within inside listed =
      let found = any_from (pointwise nat_eq (row_at n)) row_at ns listed in
      let same : n ≡ found.0 = one_number n found.0 inside (holds_among (λ m. m < length rows) ns found.0 within found.1)
      ((bytes_eq-Decides (row_at n) (row_at found.0)).0 found.2) in
      subst (λ k. IsAmong k ns) (sym same) found.1

zero_left : (n : ℕ) → 0 + n ≡ n
zero_left n = omega arith

-- one number more
pub numbers_more : (n : ℕ) → range_with_len 0 (n + 1) ≡ range_with_len 0 n ++ n ∷ []
numbers_more n =
    sym (map-id (range_with_len 0 (n + 1)))
    ∙ map-range_with_len_more (λ (k : ℕ). k) 0 n n (zero_left n)
    ∙ ap (λ (ns : List ℕ). ns ++ n ∷ []) (map-id (range_with_len 0 n))

-- where each row covers itself, they are covered
module _ (rows : ℕ) where
  same_number : (n : ℕ) → n < rows → get_or (range_with_len 0 rows) n 0 ≡ n
  same_number n inside = get_or-range_with_len 0 rows n 0 inside ∙ zero_left n

  itself : (n : ℕ) → n < rows → CoversItself (range_with_len 0 rows) n
  itself n inside = (omega (arith, inside, length-range_with_len 0 rows), same_number n inside)

  stands : (lead : List ℕ) → All (λ n. n < rows) lead → StaysWithin (range_with_len 0 rows) lead
  stands lead within = λ k d low.
      let n = get_or lead k d in
      let inside : n < rows = within k d low in
      (omega (arith, inside, length-range_with_len 0 rows), ap (λ m. list_any (nat_eq m) lead) (same_number n inside) ∙ list_any_at (nat_eq n) lead k d low (eq-eqb n n refl))

  pub itself_covers : (numbers : List ℕ) (leads : List RungLead) (cover : List ℕ) → cover ≡ range_with_len 0 rows → 0 < rows → All (λ n. n < rows) numbers
      → IsCover rows numbers leads cover
  itself_covers numbers leads cover is some within = subst (IsCover rows numbers leads) (sym is) (record {
    long = length-range_with_len 0 rows;
    first = itself 0 some;
    themselves = All-from_get_or (CoversItself (range_with_len 0 rows)) (range_with_len 0 rows) 0 (λ k low.
        let inside : k < rows = omega (arith, low, length-range_with_len 0 rows) in
        subst (CoversItself (range_with_len 0 rows)) (sym (same_number k inside)) (itself k inside));
    stays = λ k d low. stands (rung_numbers numbers (get_or leads k d))
        (All-take (λ n. n < rows) ((get_or leads k d).end - (get_or leads k d).start) (drop (get_or leads k d).start numbers)
        (All-drop (λ n. n < rows) (get_or leads k d).start numbers within));
  })
