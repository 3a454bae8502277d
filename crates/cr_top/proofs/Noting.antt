-- Texts that are written one after another.
use Rattle.std.specs.Prelude.{◌≡◌, ℕ, ◌+◌, ◌<◌, ◌≤◌, List, [], ◌∷◌, ◌++◌, length, take, drop, map, get_or}
use Rattle.std.specs.Prelude.{Result, Ok, Err, IsErr}
use Rattle.std.proofs.Common.{refl, ap, sym, ◌∙◌, subst, arith, append_assoc, length-append, append-nil, true≢false}
use Rattle.std.proofs.Math.Seq.{take-append-add}
use Rattle.std.proofs.lemmas.List.{take-append-le, take-append-drop, take_more, take-map, map-append, length-map}
use Rattle.cr_top.specs.declared.piece.Piece.{Piece}
use Rattle.cr_top.specs.Noted.{IsWritten}
use Rattle.cr_top.specs.Pieces.{piece_text, text_of}

-- what a sink appends in two parts is the one and then the other
abbrev pub Chains : {S : Type 0} → (S → S → List ℕ → Type 0) → Type 0
Chains {S} grew = (a b c : S) (x y : List ℕ) → grew a b x → grew b c y → grew a c (x ++ y)

-- a text that was written whole, and then what came of another
pub continued : {S T U E : Type 0} {grew : S → S → List ℕ → Type 0} {faults : S → ℕ} → Chains grew
    → (a b c : S) (x y : List ℕ) (v : T) (r : Result U E)
    → IsWritten {E = E} grew faults a b (Ok v) x → IsWritten grew faults b c r y → IsWritten grew faults a c r (x ++ y)
continued chains a b c x y v (Ok u) first rest = record {
  whole = chains a b c x y first.whole rest.whole;
  front = tt;
  fault = tt;
  later = omega arith;
}
continued {grew = grew} chains a b c x y v (Err e) first rest = record {
  whole = tt;
  front = (
    length x + rest.front.0,
    omega (arith, rest.front.1, length-append x y),
    subst (grew a c) (sym (take-append-add x y rest.front.0)) (chains a b c x (take rest.front.0 y) first.whole rest.front.2),
  );
  fault = omega (arith, rest.fault);
  later = omega arith;
}

-- a text that was not written whole ends what was to come after it
pub stopped : {S T U E F : Type 0} {grew : S → S → List ℕ → Type 0} {faults : S → ℕ}
    → (a b : S) (x y : List ℕ) (e : E) (r : Result U F) → IsErr r
    → IsWritten {T = T} grew faults a b (Err e) x → IsWritten grew faults a b r (x ++ y)
stopped a b x y e (Ok u) is first = absurd (true≢false (sym is))
stopped {grew = grew} a b x y e (Err f) is first = record {
  whole = tt;
  front = (first.front.0, omega (arith, first.front.1, length-append x y), let within : first.front.0 ≤ length x = omega (arith, first.front.1) in subst (grew a b) (sym (take-append-le first.front.0 x y within)) first.front.2);
  fault = first.fault;
  later = first.later;
}

-- one byte more of a list was written
pub each_continued : {S T E : Type 0} {grew : S → S → List ℕ → Type 0} {faults : S → ℕ} → Chains grew
    → (a b c : S) (f : ℕ → ℕ) (xs : List ℕ) (i x : ℕ) (v : T)
    → i < length xs → x ≡ f (get_or xs i 0)
    → grew a b (map f (take i xs)) × (faults a ≤ faults b)
    → IsWritten {E = E} grew faults b c (Ok v) (x ∷ [])
    → grew a c (map f (take (i + 1) xs)) × (faults a ≤ faults c)
each_continued {grew = grew} chains a b c f xs i x v within is done next =
    let more : map f (take (i + 1) xs) ≡ map f (take i xs) ++ x ∷ [] =
    ap (map f) (take_more xs i 0 within) ∙ map-append f (take i xs) (get_or xs i 0 ∷ []) ∙ ap (λ y. map f (take i xs) ++ y ∷ []) (sym is) in
    (subst (grew a c) (sym more) (chains a b c _ _ done.0 next.whole), omega arith)

-- the next byte of a list was not written
pub each_stopped : {S T U E F : Type 0} {grew : S → S → List ℕ → Type 0} {faults : S → ℕ} → Chains grew
    → (a b c : S) (f : ℕ → ℕ) (xs : List ℕ) (i x : ℕ) (e : E) (r : Result U F)
    → i < length xs
    → grew a b (map f (take i xs)) × (faults a ≤ faults b) → IsErr r
    → IsWritten {T = T} grew faults b c (Err e) (x ∷ [])
    → IsWritten grew faults a c r (map f xs)
each_stopped chains a b c f xs i x e (Ok u) within done is next = absurd (true≢false (sym is))
each_stopped {grew = grew} chains a b c f xs i x e (Err g) within done is next =
    let none : next.front.0 ≡ 0 = omega (arith, next.front.1) in
    let nothing : grew b c [] = subst (λ n. grew b c (take n (x ∷ []))) none next.front.2 in
    let front : map f (take i xs) ++ [] ≡ take i (map f xs) = append-nil (map f (take i xs)) ∙ sym (take-map f i xs) in
    record {
      whole = tt;
      front = (i, omega (arith, length-map xs f), subst (grew a c) front (chains a b c _ _ done.0 nothing));
      fault = let risen = next.fault in omega arith;
      later = omega arith;
    }

-- a piece, and then those after it
text_of-cons : (piece : Piece) (rest : List Piece) → text_of (piece ∷ rest) ≡ piece_text piece ++ text_of rest
text_of-cons piece [] = sym (append-nil (piece_text piece))
text_of-cons piece (next ∷ rest) = refl

text_of-append : (xs ys : List Piece) → text_of (xs ++ ys) ≡ text_of xs ++ text_of ys
text_of-append [] ys = refl
text_of-append (x ∷ xs) ys =
    text_of-cons x (xs ++ ys) ∙ ap (λ text. piece_text x ++ text) (text_of-append xs ys)
    ∙ sym (append_assoc (piece_text x) (text_of xs) (text_of ys)) ∙ ap (λ text. text ++ text_of ys) (sym (text_of-cons x xs))

-- one piece more
text_of-more : (xs : List Piece) (i : ℕ) (d : Piece) → i < length xs
    → text_of (take (i + 1) xs) ≡ text_of (take i xs) ++ piece_text (get_or xs i d)
text_of-more xs i d within = ap text_of (take_more xs i d within) ∙ text_of-append (take i xs) (get_or xs i d ∷ [])

-- one piece more was written
pub pieces_continued : {S T E : Type 0} {grew : S → S → List ℕ → Type 0} {faults : S → ℕ} → Chains grew
    → (a b c : S) (xs : List Piece) (i : ℕ) (d : Piece) (v : T)
    → i < length xs
    → grew a b (text_of (take i xs)) × (faults a ≤ faults b)
    → IsWritten {E = E} grew faults b c (Ok v) (piece_text (get_or xs i d))
    → grew a c (text_of (take (i + 1) xs)) × (faults a ≤ faults c)
pieces_continued {grew = grew} chains a b c xs i d v within done next =
    (subst (grew a c) (sym (text_of-more xs i d within)) (chains a b c _ _ done.0 next.whole), omega arith)

-- the next piece was not written whole
pub pieces_stopped : {S T U E F : Type 0} {grew : S → S → List ℕ → Type 0} {faults : S → ℕ} → Chains grew
    → (a b c : S) (xs : List Piece) (i : ℕ) (d : Piece) (e : E) (r : Result U F)
    → i < length xs
    → grew a b (text_of (take i xs)) × (faults a ≤ faults b) → IsErr r
    → IsWritten {T = T} grew faults b c (Err e) (piece_text (get_or xs i d))
    → IsWritten grew faults a c r (text_of xs)
pieces_stopped {T = T} {E = E} {grew = grew} {faults = faults} chains a b c xs i d e r within done stops next =
    let whole : (text_of (take i xs) ++ piece_text (get_or xs i d)) ++ text_of (drop (i + 1) xs) ≡ text_of xs =
    ap (λ text. text ++ text_of (drop (i + 1) xs)) (sym (text_of-more xs i d within))
    ∙ sym (text_of-append (take (i + 1) xs) (drop (i + 1) xs)) ∙ ap text_of (take-append-drop (i + 1) xs) in
    let before : IsWritten {T = ℕ} {E = E} grew faults a b (Ok 0) (text_of (take i xs)) = record {
      whole = done.0;
      front = tt;
      fault = tt;
      later = done.1;
    } in
    let so_far : IsWritten {T = T} grew faults a c (Err e) (text_of (take i xs) ++ piece_text (get_or xs i d)) =
    continued chains a b c _ _ 0 (Err e) before next in
    subst (IsWritten grew faults a c r) whole (stopped a c _ (text_of (drop (i + 1) xs)) e r stops so_far)
