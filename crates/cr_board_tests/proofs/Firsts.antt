-- What holds of the first items and of the next one.
use Rattle.std.proofs.Common.{◌≡◌, ℕ, zero, suc, ◌+◌, ◌<◌, ◌≤◌, List, [], ◌∷◌, ◌++◌, length, get_or, take, All, sym, ap, ◌∙◌, subst, arith}
use Rattle.std.proofs.lemmas.List.Elements.{All-append}
use Rattle.std.proofs.lemmas.List.{take_more, take_all}

pub all_more : (P : List ℕ → Type 0) (xs : List (List ℕ)) (i : ℕ) (x : List ℕ) → i < length xs → x ≡ get_or xs i x → P x → All P (take i xs) → All P (take (i + 1) xs)
all_more P xs i x inside is here before =
    subst (All P) (ap (λ y. take i xs ++ y ∷ []) is ∙ sym (take_more xs i x inside)) (All-append P (take i xs) (x ∷ []) before one)
  where
    one : All P (x ∷ [])
    one zero d within = here
    one (suc k) d within = absurd (omega arith)

pub all_taken : (P : List ℕ → Type 0) (xs : List (List ℕ)) (n : ℕ) → length xs ≤ n → All P (take n xs) → All P xs
all_taken P xs n whole all = subst (All P) (take_all n xs whole) all
