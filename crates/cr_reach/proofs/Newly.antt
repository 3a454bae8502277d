-- The new ones of some rows, as there are more of them.
use Rattle.std.proofs.Common.{◌≡◌, ◌≤◌, ℕ, Bool, true, false, cond, List, [], ◌∷◌, ◌++◌, length, Contains, inl, inr, refl, sym, ap, ap₂, ◌∙◌, subst, arith, length-append}
use Rattle.std.specs.Prelude.{◌||◌, nat_eq}
use Rattle.std.specs.Cmp.Lexicographic.{pointwise}
use Rattle.std.proofs.lemmas.Bool.{false≢true}
use Rattle.std.proofs.lemmas.List.{append-nil, append_assoc}
use Rattle.std.proofs.lemmas.List.Elements.{Contains-append_left, Contains-append_right, Contains-append_cases}
use Rattle.cr_model.specs.Levels.{is_listed, new_rows}
use Rattle.cr_model.proofs.InOrder.{contains_cases, contains_more}
use Rattle.cr_model.proofs.Listed.{held_first}
use Rattle.cr_model.proofs.NewRows.{listed_decided}

-- lists that hold the same answer the same
same_listed : (a b : List (List ℕ)) (row : List ℕ) → (Contains a row → Contains b row) → (Contains b row → Contains a row)
    → is_listed a row ≡ is_listed b row
same_listed a b row there back = by (is_listed a row) (is_listed b row) refl refl
  where
    by : (s t : Bool) → is_listed a row ≡ s → is_listed b row ≡ t → s ≡ t
    by true true h g = refl
    by false false h g = refl
    by true false h g = absurd (false≢true (sym g ∙ (listed_decided b row).1 (there ((listed_decided a row).0 h))))
    by false true h g = absurd (false≢true (sym h ∙ (listed_decided a row).1 (back ((listed_decided b row).0 g))))

-- and to them the same rows are new
same_new : (a b rows : List (List ℕ)) → ((row : List ℕ) → is_listed a row ≡ is_listed b row) → new_rows a rows ≡ new_rows b rows
same_new a b [] same = refl
same_new a b (row ∷ rows) same =
    ap₂ (λ (t : Bool) (more : List (List ℕ)). cond t [] (row ∷ []) ++ more) (same row)
    (same_new (row ∷ a) (row ∷ b) rows (λ other. ap (λ t. pointwise nat_eq other row || t) (same other)))

-- a row seen first or, where it is new, last
seen_either_way : (first : List ℕ) (seen more : List (List ℕ)) (row : List ℕ) (t : Bool) → is_listed seen first ≡ t
    → is_listed ((first ∷ seen) ++ more) row ≡ is_listed (seen ++ (cond t [] (first ∷ []) ++ more)) row
seen_either_way first seen more row true old =
    same_listed (first ∷ (seen ++ more)) (seen ++ more) row
    (λ held. elim (contains_cases first row (seen ++ more) held) [
      | inl e ↦ subst (Contains (seen ++ more)) e (Contains-append_left seen more first ((listed_decided seen first).0 old))
      | inr later ↦ later
    ])
    (contains_more first row (seen ++ more))
seen_either_way first seen more row false new =
    same_listed (first ∷ (seen ++ more)) (seen ++ first ∷ more) row
    (λ held. elim (contains_cases first row (seen ++ more) held) [
      | inl e ↦ subst (Contains (seen ++ first ∷ more)) e (Contains-append_right seen (first ∷ more) first (held_first first more))
      | inr later ↦ elim (Contains-append_cases seen more row later) [
        | inl before ↦ Contains-append_left seen (first ∷ more) row before
        | inr after ↦ Contains-append_right seen (first ∷ more) row (contains_more first row more after)
      ]
    ])
    (λ held. elim (Contains-append_cases seen (first ∷ more) row held) [
      | inl before ↦ contains_more first row (seen ++ more) (Contains-append_left seen more row before)
      | inr later ↦ elim (contains_cases first row more later) [
        | inl e ↦ subst (Contains (first ∷ (seen ++ more))) e (held_first first (seen ++ more))
        | inr after ↦ contains_more first row (seen ++ more) (Contains-append_right seen more row after)
      ]
    ])

-- of two lists joined, first those of the first
pub new_joined : (seen xs ys : List (List ℕ)) → new_rows seen (xs ++ ys) ≡ new_rows seen xs ++ new_rows (seen ++ new_rows seen xs) ys
new_joined seen [] ys = ap (λ rows. new_rows rows ys) (sym (append-nil seen))
new_joined seen (x ∷ xs) ys =
    let front = cond (is_listed seen x) [] (x ∷ []) in
    let rest = new_rows (x ∷ seen) xs in
    ap (λ more. front ++ more) (new_joined (x ∷ seen) xs ys)
    ∙ ap (λ more. front ++ (rest ++ more)) (same_new ((x ∷ seen) ++ rest) (seen ++ (front ++ rest)) ys
    (λ row. seen_either_way x seen rest row (is_listed seen x) refl))
    ∙ sym (append_assoc front rest (new_rows (seen ++ (front ++ rest)) ys))

-- so they do not get fewer
pub no_fewer : (seen xs ys : List (List ℕ)) → length (new_rows seen xs) ≤ length (new_rows seen (xs ++ ys))
no_fewer seen xs ys =
    let long : length (new_rows seen (xs ++ ys)) ≡ length (new_rows seen xs ++ new_rows (seen ++ new_rows seen xs) ys) = ap length (new_joined seen xs ys) in
    omega (arith, long, length-append (new_rows seen xs) (new_rows (seen ++ new_rows seen xs) ys))

-- a lone row
pub one_new : (seen : List (List ℕ)) (row : List ℕ) → (Contains seen row → ⊥) → new_rows seen (row ∷ []) ≡ row ∷ []
one_new seen row away = by (is_listed seen row) refl
  where
    by : (t : Bool) → is_listed seen row ≡ t → cond t [] (row ∷ []) ++ [] ≡ row ∷ []
    by true h = absurd (away ((listed_decided seen row).0 h))
    by false h = refl

pub one_old : (seen : List (List ℕ)) (row : List ℕ) → Contains seen row → new_rows seen (row ∷ []) ≡ []
one_old seen row held = ap (λ t. cond t [] (row ∷ []) ++ []) ((listed_decided seen row).1 held)
