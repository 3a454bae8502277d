-- Products added to a set, each once.
use Rattle.std.proofs.Common.{◌≡◌, ◌≢◌, ◌↔◌, ◌⊎◌, ℕ, ◌+◌, ◌<◌, List, [], ◌∷◌, ◌++◌, length, get_or, map, take, refl, sym, ap, ◌∙◌, subst, inl, inr, arith}
use Rattle.std.specs.Prelude.{Contains, All}
use Rattle.std.proofs.lemmas.List.{take_more, get_or_default, get_or-map, length-map}
use Rattle.std.proofs.lemmas.List.Elements.{Contains-push, Contains-push_cases, Contains-append_left, All-contains}
use Rattle.cr_row.specs.Rows.{IsRow, rounds, product, IsInverse}
use Rattle.cr_leads.specs.Tables.{AreRows}
use Rattle.cr_rowset.specs.Stacks.{StackParts, AllDiffer}
use Rattle.cr_rowset.specs.Pushing.{Pushes, StandsAt}
use Rattle.cr_rowset.specs.declared.pushed.Pushed.{Pushed}
use Rattle.cr_rowset.specs.declared.pushed.Pushed.TheVariants.{Fresh, Again, Full}
use Rattle.cr_false.specs.Sets.{IsFalse, IsSetOf, Adds, AreAlike}

-- what is in a map
pub in_map : (f : List ℕ → List ℕ) (rows : List (List ℕ)) (row : List ℕ) → Contains rows row → Contains (map f rows) (f row)
in_map f rows row has =
    let within : has.0 < length (map f rows) = subst (λ n. has.0 < n) (sym (length-map rows f)) has.1 in
    (has.0, within, get_or-map f rows has.0 row (f row) has.1 ∙ ap f has.2)

pub from_map : (f : List ℕ → List ℕ) (rows : List (List ℕ)) (g : List ℕ) → Contains (map f rows) g → (row : List ℕ) × Contains rows row × (g ≡ f row)
from_map f rows g has =
    let within : has.0 < length rows = subst (λ n. has.0 < n) (length-map rows f) has.1 in
    let row = get_or rows has.0 [] in
    (row, (has.0, within, get_or_default rows has.0 row [] within), sym has.2 ∙ get_or-map f rows has.0 [] g within)

in_none : (g : List ℕ) → Contains [] g → ⊥
in_none g has = omega (arith, has.1)

pub adds_none : (rows : List (List ℕ)) → Adds rows [] rows
adds_none rows = record {
  differ = λ d. d;
  all = λ g. (λ h. inl h, λ h. elim h [ inl k ↦ k | inr k ↦ absurd (in_none g k) ]);
}

-- the law of pushes
abbrev pub StayDifferent : Type 0
StayDifferent = (old new : StackParts) (row : List ℕ) (a : Pushed) → AllDiffer old.rows → Pushes old row a new → AllDiffer new.rows

at_place : (rows : List (List ℕ)) (row : List ℕ) (place : ℕ) → StandsAt rows row place → Contains rows row
at_place rows row place at = (place, at.within, get_or_default rows place row [] at.within ∙ at.is)

module _ (old : List (List ℕ)) (more : List (List ℕ)) (before new : StackParts) (row : List ℕ) where
  -- one more row is pushed
  abbrev Pushed' : Type 0
  Pushed' = (g : List ℕ) → Contains new.rows g ↔ (Contains before.rows g ⊎ (row ≡ g))

  pushed_rows : (answer : Pushed) → Pushes before row answer new → answer ≢ Full → Pushed'
  pushed_rows Fresh pushes some =
      let is : new.rows ≡ before.rows ++ row ∷ [] = ap (λ (s : StackParts). s.rows) pushes.2 in
      λ g. (
        λ h. Contains-push_cases before.rows row g (subst (λ (rows : List (List ℕ)). Contains rows g) is h),
        λ h. subst (λ (rows : List (List ℕ)). Contains rows g) (sym is) (elim h [
          | inl k ↦ Contains-append_left before.rows (row ∷ []) g k
          | inr e ↦ subst (λ (r : List ℕ). Contains (before.rows ++ row ∷ []) r) e (Contains-push before.rows row)
        ]),
      )
  pushed_rows (Again place) pushes some =
      let is : new.rows ≡ before.rows = ap (λ (s : StackParts). s.rows) pushes.1 in
      λ g. (
        λ h. inl (subst (λ (rows : List (List ℕ)). Contains rows g) is h),
        λ h. subst (λ (rows : List (List ℕ)). Contains rows g) (sym is) (elim h [
          | inl k ↦ k
          | inr e ↦ subst (λ (r : List ℕ). Contains before.rows r) e (at_place before.rows row place pushes.0)
        ]),
      )
  pushed_rows Full pushes some = absurd (some refl)

  pub adds_push : StayDifferent → (answer : Pushed) → Adds old more before.rows → Pushes before row answer new → answer ≢ Full
      → Adds old (more ++ row ∷ []) new.rows
  adds_push stay answer adds pushes some =
      let told = pushed_rows answer pushes some in
      record {
        differ = λ d. stay before new row answer (adds.differ d) pushes;
        all = λ g. (
          λ h. elim ((told g).0 h) [
            | inl k ↦ elim ((adds.all g).0 k) [
              | inl o ↦ inl o
              | inr m ↦ inr (Contains-append_left more (row ∷ []) g m)
            ]
            | inr e ↦ inr (subst (λ (r : List ℕ). Contains (more ++ row ∷ []) r) e (Contains-push more row))
          ],
          λ h. elim h [
            | inl o ↦ (told g).1 (inl ((adds.all g).1 (inl o)))
            | inr m ↦ elim (Contains-push_cases more row g m) [
              | inl k ↦ (told g).1 (inl ((adds.all g).1 (inr k)))
              | inr e ↦ (told g).1 (inr e)
            ]
          ],
        );
      }

-- one more of some rows is mapped and pushed
pub adds_mapped : StayDifferent → (old : List (List ℕ)) (before new : StackParts) (f : List ℕ → List ℕ) (rows : List (List ℕ)) (index : ℕ) (item made : List ℕ) (answer : Pushed)
    → Adds old (map f (take index rows)) before.rows → index < length rows → item ≡ get_or rows index [] → made ≡ f item
    → Pushes before made answer new → answer ≢ Full → Adds old (map f (take (index + 1) rows)) new.rows
adds_mapped stay old before new f rows index item made answer adds within at is pushes some =
    let longer : map f (take (index + 1) rows) ≡ map f (take index rows) ++ made ∷ [] =
    ap (map f) (take_more rows index [] within) ∙ map_pushed f (take index rows) (get_or rows index []) ∙ ap (λ (r : List ℕ). map f (take index rows) ++ r ∷ []) (ap f (sym at) ∙ sym is) in
    subst (λ (more : List (List ℕ)). Adds old more new.rows) (sym longer) (adds_push old (map f (take index rows)) before new made stay answer adds pushes some)
  where
    map_pushed : (f : List ℕ → List ℕ) (xs : List (List ℕ)) (x : List ℕ) → map f (xs ++ x ∷ []) ≡ map f xs ++ f x ∷ []
    map_pushed f [] x = refl
    map_pushed f (y ∷ xs) x = ap (λ (rest : List (List ℕ)). f y ∷ rest) (map_pushed f xs x)

-- the laws of products that quotients rest on
pub record QuotientLaws : Type 0 where
  pub associates : (g h r : List ℕ) → IsRow r → length h ≡ length r → product (product g h) r ≡ product g (product h r)
  pub long : (h r : List ℕ) → length (product h r) ≡ length r
  pub neutral : (h : List ℕ) → product h (rounds (length h)) ≡ h
  pub rounds_long : (n : ℕ) → length (rounds n) ≡ n
  pub cancel : (g h r : List ℕ) → IsRow r → length g ≡ length r → length h ≡ length r → product g r ≡ product h r → g ≡ h

module _ (laws : QuotientLaws) (r s inverse : List ℕ) (is_row : IsRow s) (same : length r ≡ length s) (undoes : IsInverse s inverse) where
  inverse_long : length inverse ≡ length s
  inverse_long = sym (laws.long s inverse) ∙ ap length undoes.right ∙ laws.rounds_long (length s)

  pub undone : product (product r inverse) s ≡ r
  undone = laws.associates r inverse s is_row inverse_long ∙ ap (product r) undoes.left ∙ ap (λ n. product r (rounds n)) (sym same) ∙ laws.neutral r

  pub quotient_long : length (product r inverse) ≡ length s
  quotient_long = laws.long r inverse ∙ inverse_long

  pub is_quotient : (g : List ℕ) → length g ≡ length s → (product g s ≡ r) ↔ (g ≡ product r inverse)
  is_quotient g long = (
    λ e. laws.cancel g (product r inverse) s is_row long quotient_long (e ∙ sym undone),
    λ e. ap (λ row. product row s) e ∙ undone,
  )

-- no row is false of no others
pub none_false : (rows : List (List ℕ)) → IsSetOf (IsFalse rows []) []
none_false rows = record {
  differ = λ i j before within. absurd (omega (arith, within));
  all = λ g. (λ h. absurd (in_none g h), λ f. absurd (in_none f.second f.has_second));
}

-- the products with one more inverse
module _ (laws : QuotientLaws) (stage : ℕ) (rows others : List (List ℕ)) (item inverse : List ℕ) (is_row : IsRow item) (item_long : length item ≡ stage)
    (all : AreRows stage rows) (undoes : IsInverse item inverse) where
  row_long : (row : List ℕ) → Contains rows row → length row ≡ length item
  row_long row has = (All-contains (λ r. IsRow r × (length r ≡ stage)) rows row all has).1 ∙ sym item_long

  pub false_more : (g : List ℕ) → IsFalse rows (others ++ item ∷ []) g ↔ (IsFalse rows others g ⊎ Contains (map (λ row. product row inverse) rows) g)
  false_more g = (
    λ f. elim (Contains-push_cases others item f.second f.has_second) [
      | inl k ↦ inl (record { first = f.first; second = f.second; has_first = f.has_first; has_second = k; same_length = f.same_length; is = f.is })
      | inr e ↦
          let long : length g ≡ length item = f.same_length ∙ ap length (sym e) in
          let made : g ≡ product f.first inverse =
          (is_quotient laws f.first item inverse is_row (row_long f.first f.has_first) undoes g long).0 (ap (product g) e ∙ f.is) in
          inr (subst (λ (r : List ℕ). Contains (map (λ row. product row inverse) rows) r) (sym made) (in_map (λ row. product row inverse) rows f.first f.has_first))
    ],
    λ h. elim h [
      | inl f ↦ record { first = f.first; second = f.second; has_first = f.has_first; has_second = Contains-append_left others (item ∷ []) f.second f.has_second; same_length = f.same_length; is = f.is }
      | inr k ↦
          let (row, has, is) = from_map (λ row. product row inverse) rows g k in
          let long : length g ≡ length item = ap length is ∙ quotient_long laws row item inverse is_row (row_long row has) undoes in
          record {
            first = row;
            second = item;
            has_first = has;
            has_second = Contains-push others item;
            same_length = long;
            is = (is_quotient laws row item inverse is_row (row_long row has) undoes g long).1 is;
          }
    ],
  )

  pub set_more : (old new : List (List ℕ)) → IsSetOf (IsFalse rows others) old → Adds old (map (λ row. product row inverse) rows) new
      → IsSetOf (IsFalse rows (others ++ item ∷ [])) new
  set_more old new set adds = record {
    differ = adds.differ set.differ;
    all = λ g. (
      λ h. (false_more g).1 (elim ((adds.all g).0 h) [ inl k ↦ inl ((set.all g).0 k) | inr k ↦ inr k ]),
      λ f. (adds.all g).1 (elim ((false_more g).0 f) [ inl k ↦ inl ((set.all g).1 k) | inr k ↦ inr k ]),
    );
  }

pub set_taken : QuotientLaws → (rows others : List (List ℕ)) (index : ℕ) (item inverse : List ℕ) (old new : List (List ℕ))
    → AreAlike rows others → IsInverse item inverse → index < length others → item ≡ get_or others index []
    → IsSetOf (IsFalse rows (take index others)) old → Adds old (map (λ row. product row inverse) rows) new
    → IsSetOf (IsFalse rows (take (index + 1) others)) new
set_taken laws rows others index item inverse old new alike undoes within at set adds =
    let longer : take (index + 1) others ≡ take index others ++ item ∷ [] =
    take_more others index [] within ∙ ap (λ (r : List ℕ). take index others ++ r ∷ []) (sym at) in
    let right : IsRow item × (length item ≡ alike.stage) = subst (λ (r : List ℕ). IsRow r × (length r ≡ alike.stage)) (sym at) (alike.others_are index [] within) in
    subst (λ (list : List (List ℕ)). IsSetOf (IsFalse rows list) new) (sym longer)
    (set_more laws alike.stage rows (take index others) item inverse right.0 right.1 alike.rows_are undoes old new set adds)

-- the rows are as long as the inverse of another
pub rows_long : (rows others : List (List ℕ)) (index : ℕ) (item inverse : List ℕ) → AreAlike rows others → index < length others
    → item ≡ get_or others index [] → length inverse ≡ length item → All (λ row. length row ≡ length inverse) rows
rows_long rows others index item inverse alike within at long = λ k d inside.
    let right : length item ≡ alike.stage = ap length at ∙ (alike.others_are index [] within).1 in
    (alike.rows_are k d inside).1 ∙ sym right ∙ sym long
