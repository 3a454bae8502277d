-- Bytes that are taken one call after another.
use Rattle.std.proofs.Common.{◌≡◌, ℕ, ◌+◌, ◌<◌, ◌≤◌, min, List, [], ◌∷◌, ◌++◌, length, take, drop, refl, ap, sym, ◌∙◌, arith, length-append, length-drop}
use Rattle.std.proofs.Math.Seq.{take-append_seam}
use Rattle.std.proofs.lemmas.List.{length-take-le, take-append-drop, drop-drop}

pub length-append-take : (xs ys : List ℕ) (n : ℕ) → n ≤ length ys → length (xs ++ take n ys) ≡ length xs + n
length-append-take xs ys n h = omega (arith, length-append xs (take n ys), length-take-le n ys h)

-- a list without length is empty
nil-from_length : (xs : List ℕ) → length xs ≡ 0 → xs ≡ []
nil-from_length [] h = refl
nil-from_length (x ∷ xs) h = absurd (omega arith)

-- what was put at the front of a list comes first in it
take-front : (xs ys : List ℕ) (n : ℕ) → length xs ≡ n → take n (xs ++ ys) ≡ xs
take-front xs ys n h = ap (λ k. take k (xs ++ ys)) (sym h) ∙ take-append_seam xs ys

-- the first n bytes of what was left came to the front of a buffer, and the rest of them is left
pub copied-front : (items old from buf to : List ℕ) (next n : ℕ)
    → drop next items ≡ old → from ≡ old → n ≡ min (length from) (length buf) → to ≡ take n from ++ drop n buf
    → (old ≡ take n to ++ drop (next + n) items) × (n ≡ 0 → 0 < length to → drop (next + n) items ≡ [])
copied-front items old from buf to next n left same count copied =
    let fits : n ≤ length old = let l = ap length same in omega arith in
    let rest : drop (next + n) items ≡ drop n old = sym (drop-drop n next items) ∙ ap (drop n) left in
    let filled : to ≡ take n old ++ drop n buf = copied ∙ ap (λ l. take n l ++ drop n buf) same in
    let front : take n to ≡ take n old = ap (take n) filled ∙ take-front (take n old) (drop n buf) n (length-take-le n old fits) in
    let whole : length to ≡ length (take n old) + length (drop n buf) = ap length filled ∙ length-append (take n old) (drop n buf) in (
      sym (take-append-drop n old) ∙ ap (λ l. l ++ drop n old) (sym front) ∙ ap (λ l. take n to ++ l) (sym rest),
      λ none some. let empty : length old ≡ 0 = let l = ap length same in omega (arith, length-take-le n old fits, length-drop n buf) in
          rest ∙ ap (drop n) (nil-from_length old empty) ∙ ap (λ k. drop k []) none,
    )
