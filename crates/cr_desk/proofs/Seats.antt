-- Numbers one after another.
use Rattle.std.proofs.Common.{◌≡◌, ℕ, zero, suc, ◌+◌, List, [], ◌∷◌, ◌++◌, map, sym, ap, ap₂, ◌∙◌, arith}
use Rattle.std.specs.List.{range_with_len}
use Rattle.std.proofs.lemmas.List.{map-append}

range_more : (a n : ℕ) → range_with_len a (n + 1) ≡ range_with_len a n ++ (a + n) ∷ []
range_more a zero = let e : a ≡ a + 0 = omega arith in ap (λ x. x ∷ []) e
range_more a (suc n) =
    let e : a + 1 + n ≡ a + suc n = omega arith in
    let more : suc n + 1 ≡ suc (n + 1) = omega arith in
    ap (range_with_len a) more
    ∙ ap (λ l. a ∷ l) (range_more (a + 1) n ∙ ap (λ x. range_with_len (a + 1) n ++ x ∷ []) e)

pub numbers_more : {X : Type 0} (f : X → ℕ) (xs : List X) (x : X) (n : ℕ) → map f xs ≡ range_with_len 0 n → f x ≡ n → map f (xs ++ x ∷ []) ≡ range_with_len 0 (n + 1)
numbers_more f xs x n is at =
    let e : 0 + n ≡ n = omega arith in
    map-append f xs (x ∷ []) ∙ ap₂ (λ l y. l ++ y ∷ []) is (at ∙ sym e) ∙ sym (range_more 0 n)
