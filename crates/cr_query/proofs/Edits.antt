-- Lists that are changed in place, item by item.
use Rattle.std.proofs.Common.{◌≡◌, ℕ, zero, suc, ◌+◌, ◌-◌, ◌<◌, List, [], ◌∷◌, ◌++◌, length, get_or, set, map, take, drop, refl, ap, ap₂, ◌∙◌, arith, length-take}
use Rattle.std.specs.List.{zip}
use Rattle.std.proofs.lemmas.List.{get_or-append_right, get_or-drop, length-map}
use Rattle.std.proofs.lemmas.Slice.Zip.{length-zip}

-- an item that is not changed yet
pub not_yet : {X : Type 0} (f : X → X) (xs ys : List X) (i : ℕ) (d : X) → i < length xs → ys ≡ map f (take i xs) ++ drop i xs
    → get_or ys i d ≡ get_or xs i d
not_yet f xs ys i d inside is =
    let front : length (map f (take i xs)) ≡ i = omega (arith, length-map (take i xs) f, length-take i xs) in
    let at : i + (i - i) ≡ i = omega arith in
    ap (λ l. get_or l i d) is
    ∙ get_or-append_right (map f (take i xs)) (drop i xs) i i d front (omega arith)
    ∙ get_or-drop i xs (i - i) d
    ∙ ap (λ n. get_or xs n d) at

-- the same where each item has one of another list beside it
pub zipped_not_yet : {X N : Type 0} (f : X × N → X) (xs ys : List X) (ns : List N) (i : ℕ) (d : X) → i < length xs → length ns ≡ length xs
    → ys ≡ map f (zip (take i xs) ns) ++ drop i xs → get_or ys i d ≡ get_or xs i d
zipped_not_yet f xs ys ns i d inside same is =
    let front : length (map f (zip (take i xs) ns)) ≡ i = omega (arith, length-map (zip (take i xs) ns) f, length-zip (take i xs) ns, length-take i xs) in
    let at : i + (i - i) ≡ i = omega arith in
    ap (λ l. get_or l i d) is
    ∙ get_or-append_right (map f (zip (take i xs) ns)) (drop i xs) i i d front (omega arith)
    ∙ get_or-drop i xs (i - i) d
    ∙ ap (λ n. get_or xs n d) at

zipped_step : {X N : Type 0} (f : X × N → X) (xs : List X) (ns : List N) (i : ℕ) (d : X) (e : N) → i < length xs → length ns ≡ length xs
    → set (map f (zip (take i xs) ns) ++ drop i xs) i (f (get_or xs i d, get_or ns i e)) ≡ map f (zip (take (suc i) xs) ns) ++ drop (suc i) xs
zipped_step f [] ns i d e inside same = absurd (omega (arith, inside))
zipped_step f (x ∷ xs) [] i d e inside same = absurd (omega (arith, same))
zipped_step f (x ∷ xs) (n ∷ ns) zero d e inside same = refl
zipped_step f (x ∷ xs) (n ∷ ns) (suc i) d e inside same =
    ap (λ l. f (x, n) ∷ l) (zipped_step f xs ns i d e (omega (arith, inside)) (omega (arith, same)))

pub zipped_more : {X N : Type 0} (f : X × N → X) (xs ys : List X) (ns : List N) (i : ℕ) (x : X) (n : N) → i < length xs → length ns ≡ length xs
    → ys ≡ map f (zip (take i xs) ns) ++ drop i xs → x ≡ get_or ys i x → n ≡ get_or ns i n
    → set ys i (f (x, n)) ≡ map f (zip (take (i + 1) xs) ns) ++ drop (i + 1) xs
zipped_more f xs ys ns i x n inside same is x_is n_is =
    let next : suc i ≡ i + 1 = omega arith in
    ap₂ (λ l z. set l i z) is (ap₂ (λ a b. f (a, b)) (x_is ∙ zipped_not_yet f xs ys ns i x inside same is) n_is)
    ∙ zipped_step f xs ns i x n inside same
    ∙ ap (λ k. map f (zip (take k xs) ns) ++ drop k xs) next
