-- Equal words one after another are the least of their rotations exactly where the word is.
use Rattle.std.proofs.Common.{◌≡◌, ℕ, zero, suc, ◌+◌, ◌-◌, ◌*◌, ◌/◌, ◌%◌, ◌<◌, ◌≤◌, ◌⊎◌, ◌↔◌, List, ◌++◌, length, get_or, flat_map, refl, sym, ap, ◌∙◌, inl, inr, arith, length-append, append_assoc, append-nil}
use Rattle.std.specs.List.{range_with_len}
use Rattle.std.proofs.Math.Nat.{mod-add-div', mul_assoc, mul-mod_left}
use Rattle.std.proofs.lemmas.Bool.{cases_order}
use Rattle.std.proofs.lemmas.List.{get_or-append_right, get_or_append_left}
use Rattle.cr_model.specs.Queries.{repeated}
use Rattle.cr_model.specs.LeastRotations.{IsLeastRotation}
use Rattle.cr_rotate.specs.Fronts.{FrontRepeats}
use Rattle.cr_rotate.proofs.Lists.{less_at, first_place}
use Rattle.cr_rotate.proofs.Periods.{at}
use Rattle.cr_rotate.proofs.Kept.{repeats_alike}
use Rattle.cr_rotate.proofs.LeastRotations.{far, whole_front, whole_where_least, least_where_whole, never_least, empty_least}

-- the words joined differently
rejoined : (a number : ℕ) (front back : List ℕ) → front ++ flat_map (λ _. back ++ front) (range_with_len a number) ≡ flat_map (λ _. front ++ back) (range_with_len a number) ++ front
rejoined a zero front back = append-nil front
rejoined a (suc number) front back =
    ap (λ l. front ++ l) (append_assoc back front (flat_map (λ _. back ++ front) (range_with_len (a + 1) number)))
    ∙ ap (λ l. front ++ (back ++ l)) (rejoined (a + 1) number front back)
    ∙ sym (append_assoc front back (flat_map (λ _. front ++ back) (range_with_len (a + 1) number) ++ front))
    ∙ sym (append_assoc (front ++ back) (flat_map (λ _. front ++ back) (range_with_len (a + 1) number)) front)

-- where some words begin with a word, that is less than another, they are less than as many of the other
pub some_least : (number : ℕ) (word : List ℕ) → IsLeastRotation (repeated (suc number) word) → IsLeastRotation word
some_least number word least other turned less =
    let front = turned.0 in
    let back = turned.1 in
    let same_length : length other ≡ length word = ap length turned.3 ∙ length-append back front ∙ omega (arith, ap length turned.2, length-append front back) in
    let (j, found) = first_place other word same_length less in
    let rest = flat_map (λ _. word) (range_with_len 1 number) in
    let others = flat_map (λ _. other) (range_with_len 1 number) in
    let begins : (i : ℕ) → i < length word → get_or (word ++ rest) i 0 ≡ get_or word i 0 = λ i low. get_or_append_left word rest 0 i low in
    let begins' : (i : ℕ) → i < length other → get_or (other ++ others) i 0 ≡ get_or other i 0 = λ i low. get_or_append_left other others 0 i low in
    least (repeated (suc number) other) (
      front,
      back ++ rest,
      ap (λ l. l ++ rest) turned.2 ∙ append_assoc front back rest,
      turned_words number word other front back turned.2 turned.3,
    )
    (less_at (other ++ others) (word ++ rest) j (omega (arith, found.inside, length-append other others)) (omega (arith, found.inside, length-append word rest))
    (λ i low. begins' i (omega (arith, found.inside)) ∙ found.same i low ∙ sym (begins i (omega (arith, found.inside))))
    (omega (arith, begins' j found.inside, begins j (omega (arith, found.inside)), found.less)))
  where
    turned_words : (number : ℕ) (word other front back : List ℕ) → word ≡ front ++ back → other ≡ back ++ front
        → repeated (suc number) other ≡ (back ++ flat_map (λ _. word) (range_with_len 1 number)) ++ front
    turned_words number word other front back is turned =
        ap (λ w. repeated (suc number) w) turned ∙ append_assoc back front (flat_map (λ _. back ++ front) (range_with_len 1 number))
        ∙ ap (λ l. back ++ l) (rejoined 1 number front back)
        ∙ sym (append_assoc back (flat_map (λ _. front ++ back) (range_with_len 1 number)) front)
        ∙ ap (λ w. (back ++ flat_map (λ _. w) (range_with_len 1 number)) ++ front) (sym is)

-- the first of some words
first_of : (a number i : ℕ) (word : List ℕ) → i < length word → i < length (flat_map (λ _. word) (range_with_len a number)) → get_or (flat_map (λ _. word) (range_with_len a number)) i 0 ≡ get_or word i 0
first_of a zero i word low inside = absurd (omega arith)
first_of a (suc number) i word low inside = get_or_append_left word (flat_map (λ _. word) (range_with_len (a + 1) number)) 0 i low

-- a word of m whole periods
record Whole (word : List ℕ) (p m : ℕ) : Type 0 where
  front : FrontRepeats word (length word) p
  long : length word ≡ m * p

-- a step less than a period before the end
wraps : (word : List ℕ) (p m i : ℕ) → Whole word p m → i < length word → length word ≤ i + p → get_or word i 0 ≡ get_or word (i + p - length word) 0
wraps word p zero i whole inside late = absurd (omega (arith, whole.long))
wraps word p (suc m) i whole inside late =
    let left : length word - p ≡ m * p = omega (arith, whole.long) in
    at word i (i + p - length word + (length word - p)) (omega (arith, whole.front.within)) ∙ far word (length word) p whole.front m (i + p - length word) (length word - p) left (omega (arith, whole.front.within))

-- what repeats the period and begins as the word does, after the word
record GoesRound (word rest : List ℕ) (p : ℕ) : Type 0 where
  begins : (i : ℕ) → i < length word → i < length rest → get_or rest i 0 ≡ get_or word i 0
  again : (i : ℕ) → i + p < length rest → get_or rest (i + p) 0 ≡ get_or rest i 0

one_word_more : (word rest : List ℕ) (p m i : ℕ) → Whole word p m → GoesRound word rest p → i + p < length (word ++ rest) → get_or (word ++ rest) (i + p) 0 ≡ get_or (word ++ rest) i 0
one_word_more word rest p m i whole round inside = by (cases_order i (length word)) (cases_order (i + p) (length word))
  where
    all_long : length (word ++ rest) ≡ length word + length rest
    all_long = length-append word rest

    beyond : (k : ℕ) → length word ≤ k → get_or (word ++ rest) k 0 ≡ get_or rest (k - length word) 0
    beyond k past = get_or-append_right word rest (length word) k 0 refl past

    later : length word ≤ i → get_or (word ++ rest) (i + p) 0 ≡ get_or (word ++ rest) i 0
    later past =
        beyond (i + p) (omega arith) ∙ at rest (i + p - length word) (i - length word + p) (omega arith)
        ∙ round.again (i - length word) (omega (arith, all_long, inside)) ∙ sym (beyond i past)

    across : i < length word → length word ≤ i + p → get_or (word ++ rest) (i + p) 0 ≡ get_or (word ++ rest) i 0
    across early late =
        beyond (i + p) late ∙ round.begins (i + p - length word) (omega (arith, whole.front.within)) (omega (arith, all_long, inside))
        ∙ sym (wraps word p m i whole early late) ∙ sym (get_or_append_left word rest 0 i early)

    within : i + p < length word → get_or (word ++ rest) (i + p) 0 ≡ get_or (word ++ rest) i 0
    within early = get_or_append_left word rest 0 (i + p) early ∙ whole.front.repeats i early ∙ sym (get_or_append_left word rest 0 i (omega arith))

    by : (i ≡ length word) ⊎ ((i < length word) ⊎ (length word < i)) → (i + p ≡ length word) ⊎ ((i + p < length word) ⊎ (length word < i + p)) → get_or (word ++ rest) (i + p) 0 ≡ get_or (word ++ rest) i 0
    by (inl e) end = later (omega arith)
    by (inr (inr more)) end = later (omega arith)
    by (inr (inl less)) (inl e) = across less (omega arith)
    by (inr (inl less)) (inr (inr more)) = across less (omega arith)
    by (inr (inl less)) (inr (inl early)) = within early

-- some such words repeat the period on and on
goes_round : (word : List ℕ) (p m : ℕ) → Whole word p m → (a number i : ℕ) → i + p < length (flat_map (λ _. word) (range_with_len a number))
    → get_or (flat_map (λ _. word) (range_with_len a number)) (i + p) 0 ≡ get_or (flat_map (λ _. word) (range_with_len a number)) i 0
goes_round word p m whole a zero i inside = absurd (omega arith)
goes_round word p m whole a (suc number) i inside =
    one_word_more word (flat_map (λ _. word) (range_with_len (a + 1) number)) p m i whole (record {
      begins = λ k low less. first_of (a + 1) number k word low less;
      again = goes_round word p m whole (a + 1) number;
    }) inside

-- the length of some words
words_long : (a number : ℕ) (word : List ℕ) → length (flat_map (λ _. word) (range_with_len a number)) ≡ number * length word
words_long a zero word = omega arith
words_long a (suc number) word = omega (arith, length-append word (flat_map (λ _. word) (range_with_len (a + 1) number)), words_long (a + 1) number word)

none : (k n : ℕ) → n ≡ 0 → k * n ≡ 0
none k n e = ap (λ z. k * z) e ∙ omega arith

whole_periods : (n w p k : ℕ) → n ≡ k * w → w % p ≡ 0 → n % p ≡ 0
whole_periods n w p k is even =
    let of_w : w ≡ w / p * p = omega (arith, mod-add-div' w p) in
    let of_n : n ≡ k * (w / p) * p = is ∙ ap (λ z. k * z) of_w ∙ sym (mul_assoc k (w / p) p) in
    ap (λ z. z % p) of_n ∙ mul-mod_left (k * (w / p)) p

-- so they are the least of their rotations where the word is
all_least : (number : ℕ) (word : List ℕ) → IsLeastRotation word → IsLeastRotation (repeated (suc number) word)
all_least number word least = by (cases_order (length word) 0)
  where
    all : List ℕ
    all = repeated (suc number) word

    all_long : length all ≡ length word + length (flat_map (λ _. word) (range_with_len 1 number))
    all_long = length-append word (flat_map (λ _. word) (range_with_len 1 number))

    repeats : (p : ℕ) → FrontRepeats word (length word) p → IsLeastRotation all
    repeats p front =
        let even : length word % p ≡ 0 = whole_where_least word p front least in
        let whole : Whole word p (length word / p) = record { front = front; long = omega (arith, mod-add-div' (length word) p) } in
        let all_front : FrontRepeats all (length all) p = record {
          some = front.some;
          within = omega (arith, front.within, all_long);
          repeats = goes_round word p (length word / p) whole 0 (suc number);
          rises = (repeats_alike word all (length word) p (λ i low. sym (get_or_append_left word (flat_map (λ _. word) (range_with_len 1 number)) 0 i low)) front).rises;
        } in
        least_where_whole all p all_front (whole_periods (length all) (length word) p (suc number) (words_long 0 (suc number) word) even)

    by : (length word ≡ 0) ⊎ ((length word < 0) ⊎ (0 < length word)) → IsLeastRotation all
    by (inl e) = empty_least all (words_long 0 (suc number) word ∙ none (suc number) (length word) e)
    by (inr (inl none)) = absurd (omega arith)
    by (inr (inr some)) = elim (whole_front word (length word - 1) (omega arith)) [
      | inl found ↦ repeats found.0 found.1
      | inr turned ↦ absurd (never_least word turned least)
    ]

pub repeated_least : (number : ℕ) (word : List ℕ) → 0 < number → IsLeastRotation (repeated number word) ↔ IsLeastRotation word
repeated_least zero word some = absurd (omega arith)
repeated_least (suc number) word some = (some_least number word, all_least number word)
