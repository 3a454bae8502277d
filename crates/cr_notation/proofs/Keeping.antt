-- What is kept of a list tells what the whole list tells.
use Rattle.std.proofs.Common.{◌≡◌, ℕ, zero, suc, ◌+◌, ◌-◌, ◌<◌, ◌≤◌, ◌⊎◌, true, false, cond, List, [], ◌∷◌, ◌++◌, length, take, drop, reverse, min, Result, Ok, Err, get_or, refl, sym, ap, ◌∙◌, inl, inr, arith, append_assoc, length-drop}
use Rattle.std.specs.Prelude.{nat_lt}
use Rattle.std.proofs.lemmas.Bool.{cases_lt}
use Rattle.std.proofs.lemmas.Bool.Decides.{nat_tests}
use Rattle.std.proofs.lemmas.List.{take_all, take_more, take-append-le, length-take, length-reverse, append-nil}
use Rattle.cr_notation.proofs.Mirrors.{mirrored_more}
use Rattle.cr_row.specs.Rows.{Places}
use Rattle.cr_model.specs.declared.notation.NotationFault.TheVariants as fault
use Rattle.cr_model.specs.Notation.{mirrored}
use Rattle.cr_notation.specs.Reading.{kept, limited}

-- ---- the first n of a list

first_of_first : {A : Type 0} (n : ℕ) (xs ys : List A) → take n (take n xs ++ ys) ≡ take n (xs ++ ys)
first_of_first zero xs ys = refl
first_of_first (suc n) [] ys = refl
first_of_first (suc n) (x ∷ xs) ys = ap (λ zs. x ∷ zs) (first_of_first n xs ys)

fewer : {A : Type 0} (n : ℕ) (xs : List A) → take n (take (suc n) xs) ≡ take n xs
fewer zero xs = refl
fewer (suc n) [] = refl
fewer (suc n) (x ∷ xs) = ap (λ zs. x ∷ zs) (fewer n xs)

first_behind : {A : Type 0} (n : ℕ) (front xs ys : List A) → take n xs ≡ take n ys → take n (front ++ xs) ≡ take n (front ++ ys)
first_behind zero front xs ys same = refl
first_behind (suc n) [] xs ys same = same
first_behind (suc n) (z ∷ front) xs ys same =
    ap (λ zs. z ∷ zs) (first_behind n front xs ys (sym (fewer n xs) ∙ ap (take n) same ∙ fewer n ys))

same_or_many : {A : Type 0} (n : ℕ) (xs ys : List A) → take n xs ≡ take n ys → (xs ≡ ys) ⊎ ((n ≤ length xs) × (n ≤ length ys))
same_or_many n xs ys same =
    let lengths : min n (length xs) ≡ min n (length ys) = sym (length-take n xs) ∙ ap length same ∙ length-take n ys in
    elim (cases_lt (length xs) n) [
      | inl few ↦
          let few_too : length ys < n = omega arith in
          inl (sym (take_all n xs (omega arith)) ∙ same ∙ take_all n ys (omega arith))
      | inr many ↦ inr (many, omega arith)
    ]

-- ---- what is kept

pub all_kept : (xs : List Places) → length xs ≤ 129 → kept xs ≡ xs
unfolding kept
all_kept xs few = take_all 129 xs few

pub full_kept : (xs ys : List Places) → length xs ≤ 129 → 129 ≤ length xs → kept (xs ++ ys) ≡ xs
unfolding kept
full_kept xs ys most least = take-append-le 129 xs ys least ∙ take_all 129 xs most

pub kept_more : (xs ys : List Places) → kept (kept xs ++ ys) ≡ kept (xs ++ ys)
unfolding kept
kept_more xs ys = first_of_first 129 xs ys

pub kept_front : (xs ys zs : List Places) → kept xs ≡ kept ys → kept (xs ++ zs) ≡ kept (ys ++ zs)
kept_front xs ys zs same = sym (kept_more xs zs) ∙ ap (λ vs. kept (vs ++ zs)) same ∙ kept_more ys zs

pub kept_behind : (front xs ys : List Places) → kept xs ≡ kept ys → kept (front ++ xs) ≡ kept (front ++ ys)
unfolding kept
kept_behind front xs ys same = first_behind 129 front xs ys same

pub kept_again : (xs : List Places) → kept (kept xs) ≡ kept xs
unfolding kept
kept_again xs = take_all 129 (take 129 xs) (let long : length (take 129 xs) ≡ min 129 (length xs) = length-take 129 xs in omega arith)

pub kept_mirrored : (xs ys : List Places) → kept xs ≡ kept ys → kept (mirrored xs) ≡ kept (mirrored ys)
unfolding kept
kept_mirrored xs ys same = elim (same_or_many 129 xs ys same) [
  | inl is ↦ ap (λ zs. take 129 (mirrored zs)) is
  | inr many ↦ take-append-le 129 xs (drop 1 (reverse xs)) many.0 ∙ same ∙ sym (take-append-le 129 ys (drop 1 (reverse ys)) many.1)
]

long_test : (k : ℕ) (xs : List Places) → 129 ≤ length xs → limited k (Ok xs) ≡ Err (fault.Long k)
long_test k xs many = let test : nat_lt 128 (length xs) ≡ true = grind (arith, nat_tests) in rw test refl

-- whether there are too many changes is told of what is kept
pub kept_limited : (k : ℕ) (xs ys : List Places) → kept xs ≡ kept ys → limited k (Ok xs) ≡ limited k (Ok ys)
unfolding kept
kept_limited k xs ys same = elim (same_or_many 129 xs ys same) [
  | inl is ↦ ap (λ zs. limited k (Ok zs)) is
  | inr many ↦ long_test k xs many.0 ∙ sym (long_test k ys many.1)
]

-- ---- a block forth and back

pub none_forth : (front block : List Places) → kept front ≡ kept (front ++ take 0 block)
none_forth front block = sym (ap kept (append-nil front))

pub one_forth : (front block so_far more : List Places) (i : ℕ) (x : Places) → i < length block → x ≡ get_or block i x
    → kept so_far ≡ kept (front ++ take i block) → kept more ≡ kept (so_far ++ x ∷ []) → kept more ≡ kept (front ++ take (i + 1) block)
one_forth front block so_far more i x low read is adds =
    let next : take (i + 1) block ≡ take i block ++ x ∷ [] = take_more block i x low ∙ ap (λ y. take i block ++ y ∷ []) (sym read) in
    adds ∙ kept_front so_far (front ++ take i block) (x ∷ []) is
    ∙ ap kept (append_assoc front (take i block) (x ∷ []) ∙ ap (λ ys. front ++ ys) (sym next))

pub all_forth : (front block so_far : List Places) (i : ℕ) → length block ≤ i → kept so_far ≡ kept (front ++ take i block) → kept so_far ≡ kept (front ++ block)
all_forth front block so_far i all is = is ∙ ap (λ ys. kept (front ++ ys)) (take_all i block all)

pub none_back : (front block : List Places) → kept (front ++ block) ≡ kept ((front ++ block) ++ take 0 (drop 1 (reverse block)))
none_back front block = none_forth (front ++ block) (drop 1 (reverse block))

pub one_back : (front block so_far more : List Places) (back : ℕ) (x : Places) → 1 ≤ back → back < length block → x ≡ get_or block (length block - 1 - back) x
    → kept so_far ≡ kept ((front ++ block) ++ take (back - 1) (drop 1 (reverse block))) → kept more ≡ kept (so_far ++ x ∷ [])
    → kept more ≡ kept ((front ++ block) ++ take (back + 1 - 1) (drop 1 (reverse block)))
one_back front block so_far more back x from low read is adds =
    let all : List Places = (front ++ block) ++ take (back - 1) (drop 1 (reverse block)) in
    adds ∙ kept_front so_far all (x ∷ []) is ∙ ap kept (mirrored_more (front ++ block) all block back x from low read refl)

pub all_back : (front block so_far : List Places) (back : ℕ) → length block ≤ back → kept so_far ≡ kept ((front ++ block) ++ take (back - 1) (drop 1 (reverse block)))
    → kept so_far ≡ kept (front ++ mirrored block)
all_back front block so_far back all is =
    let few : length (drop 1 (reverse block)) ≤ back - 1 = omega (arith, length-drop 1 (reverse block), length-reverse block) in
    is ∙ ap (λ ys. kept ((front ++ block) ++ ys)) (take_all (back - 1) (drop 1 (reverse block)) few) ∙ ap kept (append_assoc front block (drop 1 (reverse block)))

-- ---- as the reader takes it

pub both_mirrored : (done block whole : List Places) → kept block ≡ kept whole → kept (done ++ mirrored block) ≡ kept (done ++ mirrored whole)
both_mirrored done block whole same = kept_behind done (mirrored block) (mirrored whole) (kept_mirrored block whole same)

pub many_limited : (k : ℕ) (changes whole : List Places) → changes ≡ kept whole → 128 < length changes → limited k (Ok whole) ≡ Err (fault.Long k)
many_limited k changes whole is many =
    kept_limited k whole (kept whole) (sym (kept_again whole)) ∙ ap (λ zs. limited k (Ok zs)) (sym is) ∙ long_test k changes (omega arith)

pub few_limited : (k : ℕ) (changes whole : List Places) → changes ≡ kept whole → length changes ≤ 128 → limited k (Ok whole) ≡ Ok changes
few_limited k changes whole is few =
    let test : nat_lt 128 (length changes) ≡ false = grind (arith, nat_tests) in
    kept_limited k whole (kept whole) (sym (kept_again whole)) ∙ ap (λ zs. limited k (Ok zs)) (sym is) ∙ rw test refl
