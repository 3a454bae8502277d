-- A word turns back exactly where its whole front does.
use Rattle.std.proofs.Common.{◌≡◌, ◌≢◌, ℕ, ◌+◌, ◌-◌, ◌<◌, List, [], ◌∷◌, ◌++◌, length, get_or, take, drop, refl, sym, ap, ◌∙◌, arith, length-append, length-drop, take-append-drop}
use Rattle.std.proofs.lemmas.List.{length-take-le, get_or-append-add, get_or-take, get_or-drop}
use Rattle.cr_model.specs.LeastRotations.{TurnsBack}
use Rattle.cr_rotate.specs.Fronts.{FrontTurns}
use Rattle.cr_rotate.proofs.Lists.{less_at, first_place}

-- a list that is not empty has some length
some_length : (xs : List ℕ) → xs ≢ [] → 0 < length xs
some_length [] some = absurd (some refl)
some_length (x ∷ xs) some = omega arith

no_length : (xs : List ℕ) → 0 < length xs → xs ≢ []
no_length xs some e = omega (arith, ap length e)

pub falls : (word : List ℕ) → TurnsBack word → FrontTurns word (length word)
falls word turned =
    let front = turned.front in
    let back = turned.back in
    let is : word ≡ front ++ back = turned.is in
    let whole : length word ≡ length front + length back = ap length is ∙ length-append front back in
    let begin : length (take (length back) word) ≡ length back = length-take-le (length back) word (omega arith) in
    let (j, found) = first_place back (take (length back) word) (sym begin) turned.less in
    let there : (i : ℕ) → get_or word (length front + i) 0 ≡ get_or back i 0 = λ i. ap (λ w. get_or w (length front + i) 0) is ∙ get_or-append-add front back i 0 in
    let here : (i : ℕ) → i < length back → get_or (take (length back) word) i 0 ≡ get_or word i 0 = λ i low. get_or-take (length back) word i 0 low in (
      length front,
      j,
      record {
        moved = some_length front turned.proper;
        inside = omega (arith, found.inside);
        same = λ i low. there i ∙ found.same i low ∙ here i (omega (arith, found.inside));
        below = omega (arith, there j, found.less, here j found.inside);
      },
    )

pub turned_back : (word : List ℕ) → FrontTurns word (length word) → TurnsBack word
turned_back word turned =
    let k = turned.0 in
    let j = turned.1 in
    let down = turned.2 in
    let long : length (drop k word) ≡ length word - k = length-drop k word in
    let front_long : length (take k word) ≡ k = length-take-le k word (omega (arith, down.inside)) in
    let begin : length (take (length (drop k word)) word) ≡ length (drop k word) = length-take-le (length (drop k word)) word (omega arith) in
    let low : j < length (drop k word) = omega (arith, down.inside) in
    let there : (i : ℕ) → get_or (drop k word) i 0 ≡ get_or word (k + i) 0 = λ i. get_or-drop k word i 0 in
    let here : (i : ℕ) → i < length (drop k word) → get_or (take (length (drop k word)) word) i 0 ≡ get_or word i 0 = λ i less. get_or-take (length (drop k word)) word i 0 less in
    record {
      front = take k word;
      back = drop k word;
      is = sym (take-append-drop k word);
      proper = no_length (take k word) (omega (arith, down.moved));
      some = no_length (drop k word) (omega arith);
      less = less_at (drop k word) (take (length (drop k word)) word) j low (omega arith) (λ i less. there i ∙ down.same i less ∙ sym (here i (omega arith))) (omega (arith, there j, down.below, here j low));
    }
