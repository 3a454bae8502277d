-- Pieces that are appended one after another.
use Rattle.std.proofs.Common.{◌≡◌, ℕ, ◌+◌, ◌<◌, ◌≤◌, List, [], ◌∷◌, ◌++◌, length, get_or, take, drop, ap, sym, ◌∙◌, subst, arith, append_assoc, append-nil, length-append, take-append-drop}
use Rattle.std.specs.Global.{Vec}
use Rattle.std.proofs.Math.Seq.{take-append-add}
use Rattle.std.proofs.lemmas.List.{take_more, take-append-le}
use Rattle.std.proofs.lemmas.List.Concat.{flat_map-append}
use Rattle.cr_io.specs.Grown.{GrowsByFront, joined}

-- what a sink appends in two parts is the one and then the other
abbrev pub Chains : {S : Type 0} → (S → S → List ℕ → Type 0) → Type 0
Chains {S} grew = (a b c : S) (x y : List ℕ) → grew a b x → grew b c y → grew a c (x ++ y)

joined-append : (pieces more : List (Vec ℕ)) → joined (pieces ++ more) ≡ joined pieces ++ joined more
joined-append pieces more = flat_map-append (λ piece. piece.items) pieces more

-- one piece more
joined-more : (pieces : List (Vec ℕ)) (i : ℕ) (piece : Vec ℕ) → i < length pieces → piece ≡ get_or pieces i piece
    → joined (take (i + 1) pieces) ≡ joined (take i pieces) ++ piece.items
joined-more pieces i piece within is =
    ap joined (take_more pieces i piece within) ∙ joined-append (take i pieces) (get_or pieces i piece ∷ [])
    ∙ ap (λ text. joined (take i pieces) ++ text) (append-nil (get_or pieces i piece).items)
    ∙ ap (λ p. joined (take i pieces) ++ p.items) (sym is)

-- one piece more was appended
pub piece_joined : {S : Type 0} {grew : S → S → List ℕ → Type 0} → Chains grew
    → (a b c : S) (pieces : List (Vec ℕ)) (i : ℕ) (piece : Vec ℕ) → i < length pieces → piece ≡ get_or pieces i piece
    → grew a b (joined (take i pieces)) → grew b c piece.items → grew a c (joined (take (i + 1) pieces))
piece_joined {grew = grew} chains a b c pieces i piece within is done next =
    subst (grew a c) (sym (joined-more pieces i piece within is)) (chains a b c _ _ done next)

-- a front of the next piece was appended
pub front_joined : {S : Type 0} {grew : S → S → List ℕ → Type 0} → Chains grew
    → (a b c : S) (pieces : List (Vec ℕ)) (i : ℕ) (piece : Vec ℕ) → i < length pieces → piece ≡ get_or pieces i piece
    → grew a b (joined (take i pieces)) → GrowsByFront grew b c piece.items → GrowsByFront grew a c (joined pieces)
front_joined {grew = grew} chains a b c pieces i piece within is done next =
    let before = joined (take i pieces) in
    let text = piece.items in
    let rest = joined (drop (i + 1) pieces) in
    let all : joined pieces ≡ before ++ (text ++ rest) =
    ap joined (sym (take-append-drop (i + 1) pieces)) ∙ joined-append (take (i + 1) pieces) (drop (i + 1) pieces)
    ∙ ap (λ t. t ++ rest) (joined-more pieces i piece within is) ∙ append_assoc before text rest in
    let front : take (length before + next.0) (joined pieces) ≡ before ++ take next.0 text =
    let inside : next.0 ≤ length text = omega (arith, next.1) in
    ap (take (length before + next.0)) all ∙ take-append-add before (text ++ rest) next.0
    ∙ ap (λ t. before ++ t) (take-append-le next.0 text rest inside) in (
      length before + next.0,
      omega (arith, next.1, ap length all, length-append before (text ++ rest), length-append text rest),
      subst (grew a c) (sym front) (chains a b c before (take next.0 text) done next.2),
    )
