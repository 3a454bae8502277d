-- One more change on the way back.
use Rattle.std.proofs.Common.{◌≡◌, ℕ, ◌+◌, ◌-◌, ◌<◌, ◌≤◌, List, [], ◌∷◌, ◌++◌, length, get_or, take, drop, reverse, sym, ap, ◌∙◌, arith, append_assoc, length-drop}
use Rattle.std.proofs.lemmas.List.{take_more, get_or-drop, get_or-reverse, length-reverse}

pub mirrored_more : {A : Type 0} (front done block : List A) (back : ℕ) (x : A) → 1 ≤ back → back < length block → x ≡ get_or block (length block - 1 - back) x
    → done ≡ front ++ take (back - 1) (drop 1 (reverse block)) → done ++ x ∷ [] ≡ front ++ take (back + 1 - 1) (drop 1 (reverse block))
mirrored_more front done block back x from low read so_far =
    let rest : List _ = drop 1 (reverse block) in
    let next : back - 1 + 1 ≡ back + 1 - 1 = omega arith in
    let there : 1 + (back - 1) ≡ back = omega arith in
    let in_rest : back - 1 < length rest = omega (arith, length-drop 1 (reverse block), length-reverse block) in
    let one : take (back + 1 - 1) rest ≡ take (back - 1) rest ++ get_or rest (back - 1) x ∷ [] = ap (λ i. take i rest) (sym next) ∙ take_more rest (back - 1) x in_rest in
    let is : get_or rest (back - 1) x ≡ x = get_or-drop 1 (reverse block) (back - 1) x ∙ ap (λ i. get_or (reverse block) i x) there ∙ get_or-reverse block back x low ∙ sym read in
    ap (λ all. all ++ x ∷ []) so_far ∙ append_assoc front (take (back - 1) rest) (x ∷ []) ∙ ap (λ all. front ++ all) (ap (λ y. take (back - 1) rest ++ y ∷ []) (sym is) ∙ sym one)
