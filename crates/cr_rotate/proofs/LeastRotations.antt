-- A word is the least of its rotations exactly where it does not turn back and is whole periods long.
use Rattle.std.proofs.Common.{◌≡◌, ℕ, zero, suc, ◌+◌, ◌-◌, ◌*◌, ◌/◌, ◌%◌, ◌<◌, ◌≤◌, ◌⊎◌, ◌↔◌, List, ◌++◌, length, get_or, take, drop, refl, sym, ap, ap₂, ◌∙◌, subst, inl, inr, arith, length-append, take-append-drop}
use Rattle.std.proofs.Math.Nat.{mod-add-div', mul_comm, mul-sub}
use Rattle.std.proofs.lemmas.Bool.{cases_order}
use Rattle.std.proofs.lemmas.Nat.{mod_below}
use Rattle.std.proofs.lemmas.List.{length-take-le, get_or-append_right, get_or_append_left, get_or-append-add}
use Rattle.cr_model.specs.Touches.{IsRotation}
use Rattle.cr_model.specs.LeastRotations.{TurnsBack, IsLeastRotation, IsPeriod}
use Rattle.cr_rotate.specs.Fronts.{Rises, FrontTurns, FrontRepeats, Tells}
use Rattle.cr_rotate.proofs.Lists.{less_at, first_place}
use Rattle.cr_rotate.proofs.Periods.{at, turns, still_turned, goes_on, begins_anew, first_step, not_both}
use Rattle.cr_rotate.proofs.WholeFronts.{falls, turned_back}

-- a step some whole periods later
pub far : (word : List ℕ) (n p : ℕ) → FrontRepeats word n p → (m i k : ℕ) → k ≡ m * p → i + k < n → get_or word (i + k) 0 ≡ get_or word i 0
far word n p front zero i k is inside = at word (i + k) i (omega arith)
far word n p front (suc m) i k is inside =
    let rest : k - p ≡ m * p = omega arith in
    let more : p ≤ k = omega arith in
    at word (i + k) (i + (k - p) + p) (omega arith) ∙ front.repeats (i + (k - p)) (omega arith) ∙ far word n p front m i (k - p) rest (omega arith)

-- what is below some whole periods has room for the rest of its own
room_left : (q m p s : ℕ) → q * p + s < m * p → q * p + p ≤ m * p
room_left q zero p s less = absurd (omega arith)
room_left zero (suc m) p s less = omega arith
room_left (suc q) (suc m) p s less =
    let rest : q * p + p ≤ m * p = room_left q m p s (omega arith) in
    omega arith

-- a rotation, step by step
record Turn (word other : List ℕ) (k : ℕ) : Type 0 where
  within : k ≤ length word
  long : length other ≡ length word
  early : (i : ℕ) → k + i < length word → get_or other i 0 ≡ get_or word (k + i) 0
  late : (i : ℕ) → length word - k ≤ i → i < length word → get_or other i 0 ≡ get_or word (i - (length word - k)) 0

turn_of : (word other front back : List ℕ) → word ≡ front ++ back → other ≡ back ++ front → Turn word other (length front)
turn_of word other front back is turned =
    let whole : length word ≡ length front + length back = ap length is ∙ length-append front back in
    let whole' : length other ≡ length back + length front = ap length turned ∙ length-append back front in
    record {
      within = omega arith;
      long = omega arith;
      early = λ i inside.
          ap (λ l. get_or l i 0) turned ∙ get_or_append_left back front 0 i (omega arith)
          ∙ sym (get_or-append-add front back i 0) ∙ ap (λ l. get_or l (length front + i) 0) (sym is);
      late = λ i past inside.
          let place : i - length back ≡ i - (length word - length front) = omega arith in
          ap (λ l. get_or l i 0) turned ∙ get_or-append_right back front (length back) i 0 refl (omega arith)
          ∙ sym (get_or_append_left front back 0 (i - length back) (omega arith)) ∙ ap (λ l. get_or l (i - length back) 0) (sym is)
          ∙ at word (i - length back) (i - (length word - length front)) place;
    }

-- the rotation by k leads
turn_by : (word : List ℕ) (k : ℕ) → k ≤ length word → (other : List ℕ) × IsRotation word other × Turn word other k
turn_by word k within =
    let is : word ≡ take k word ++ drop k word = sym (take-append-drop k word) in
    let long : length (take k word) ≡ k = length-take-le k word within in
    (drop k word ++ take k word, (take k word, drop k word, is, refl), subst (Turn word (drop k word ++ take k word)) long (turn_of word (drop k word ++ take k word) (take k word) (drop k word) is refl))

-- a number by whole periods and the rest
record Parted (k p : ℕ) : Type 0 where
  times : ℕ
  rest : ℕ
  is : times * p + rest ≡ k
  few : rest < p

parted : (k p : ℕ) → 0 < p → Parted k p
parted k p some = record {
  times = k / p;
  rest = k % p;
  is = omega (arith, mod-add-div' k p);
  few = mod_below k p some;
}

-- moved by no whole number of periods a whole word rises above itself
rises_within : (word : List ℕ) (n p m k : ℕ) → FrontRepeats word n p → n ≡ m * p → k < n → (parts : Parted k p) → 0 < parts.rest → (j : ℕ) × Rises word n k j
rises_within word n p m k front whole inside parts some =
    let (j, up) = front.rises parts.rest some parts.few in
    let room : parts.times * p + p ≤ m * p = room_left parts.times m p parts.rest (omega (arith, parts.is)) in
    let moved : (i : ℕ) → i < j + 1 → get_or word (k + i) 0 ≡ get_or word (parts.rest + i) 0 = λ i low.
    at word (k + i) (parts.rest + i + parts.times * p) (omega (arith, parts.is)) ∙ far word n p front parts.times (parts.rest + i) (parts.times * p) refl (omega (arith, up.inside)) in (
      j,
      record {
        inside = omega (arith, up.inside, parts.is);
        same = λ i low. moved i (omega arith) ∙ up.same i low;
        above = omega (arith, moved j (omega arith), up.above);
      },
    )

-- a rotation that first differs at place j does not fall there
never_falls : (word other : List ℕ) (p m k j : ℕ) → FrontRepeats word (length word) p → length word ≡ m * p → Turn word other k → j < length word
    → ((i : ℕ) → i < j → get_or other i 0 ≡ get_or word i 0) → get_or other j 0 < get_or word j 0 → Parted k p → ⊥
never_falls word other p m k j front whole turn inside same less parts = elim (cases_order (k + j) (length word)) [
  | inl e ↦ late (omega arith)
  | inr (inl early) ↦ by_start early (cases_order k 0)
  | inr (inr past) ↦ late (omega arith)
]
  where
    by_start : k + j < length word → (k ≡ 0) ⊎ ((k < 0) ⊎ (0 < k)) → ⊥
    by_start early (inl e) = omega (arith, turn.early j early, at word (k + j) j (omega arith))
    by_start early (inr (inl none)) = absurd (omega arith)
    by_start early (inr (inr some)) = not_both word (length word) p front (
      k,
      j,
      record {
        moved = some;
        inside = early;
        same = λ i low. sym (turn.early i (omega arith)) ∙ same i low;
        below = omega (arith, turn.early j early);
      },
    )

    whole_turn : length word ≤ k + j → parts.rest ≡ 0 → ⊥
    whole_turn past none =
        let apart : (m - parts.times) * p ≡ m * p - parts.times * p = mul_comm (m - parts.times) p ∙ mul-sub p m parts.times ∙ ap₂ ◌-◌ (mul_comm p m) (mul_comm p parts.times) in
        let left : length word - k ≡ (m - parts.times) * p = omega (arith, parts.is) in
        let back : get_or word (j - (length word - k) + (length word - k)) 0 ≡ get_or word (j - (length word - k)) 0 =
        far word (length word) p front (m - parts.times) (j - (length word - k)) (length word - k) left (omega (arith, turn.within)) in
        omega (arith, turn.late j (omega (arith, turn.within)) inside, at word (j - (length word - k) + (length word - k)) j (omega (arith, turn.within)), back)

    part_turn : length word ≤ k + j → 0 < parts.rest → k < length word → ⊥
    part_turn past some short =
        let (i, up) = rises_within word (length word) p m k front whole short parts some in
        omega (arith, turn.early i up.inside, same i (omega (arith, up.inside)), up.above)

    late : length word ≤ k + j → ⊥
    late past = elim (cases_order parts.rest 0) [
      | inl e ↦ whole_turn past e
      | inr (inl none) ↦ omega arith
      | inr (inr some) ↦ elim (cases_order k (length word)) [
        | inl e ↦ omega (arith, turn.late j (omega arith) inside, at word (j - (length word - k)) j (omega arith))
        | inr (inl short) ↦ part_turn past some short
        | inr (inr long) ↦ omega (arith, turn.within)
      ]
    ]

pub least_where_whole : (word : List ℕ) (p : ℕ) → FrontRepeats word (length word) p → length word % p ≡ 0 → IsLeastRotation word
least_where_whole word p front even other turned less =
    let turn : Turn word other (length turned.0) = turn_of word other turned.0 turned.1 turned.2 turned.3 in
    let (j, found) = first_place other word turn.long less in
    let whole : length word ≡ length word / p * p = omega (arith, mod-add-div' (length word) p) in
    never_falls word other p (length word / p) (length turned.0) j front whole turn (omega (arith, found.inside, turn.long)) found.same found.less (parted (length turned.0) p front.some)

-- a word that turns back has a rotation that is less
pub never_least : (word : List ℕ) → FrontTurns word (length word) → IsLeastRotation word → ⊥
never_least word turned least =
    let k = turned.0 in
    let j = turned.1 in
    let down = turned.2 in
    let (other, rotation, turn) = turn_by word k (omega (arith, down.inside)) in
    least other rotation (less_at other word j (omega (arith, turn.long, down.inside)) (omega (arith, down.inside))
    (λ i low. turn.early i (omega (arith, down.inside)) ∙ down.same i low)
    (omega (arith, turn.early j down.inside, down.below)))

-- and so has one that is not whole periods long
less_turned : (word : List ℕ) (p : ℕ) → FrontRepeats word (length word) p → (parts : Parted (length word) p) → 0 < parts.rest → IsLeastRotation word → ⊥
unfolding turn_by
less_turned word p front parts some least =
    let n = length word in
    let r = parts.rest in
    let k = parts.times * p in
    let is : k + r ≡ n = parts.is in
    let (j, up) = front.rises r some parts.few in
    let (other, rotation, turn) = turn_by word k (omega arith) in
    let low_places : (i : ℕ) → i < r → get_or other i 0 ≡ get_or word i 0 = λ i low.
    turn.early i (omega arith) ∙ at word (k + i) (i + k) (omega arith) ∙ far word n p front parts.times i k refl (omega arith) in
    let high_places : (t : ℕ) → r + t < n → get_or other (r + t) 0 ≡ get_or word t 0 = λ t inside.
    turn.late (r + t) (omega arith) inside ∙ at word (r + t - (n - k)) t (omega arith) in
    least other rotation (less_at other word (r + j) (omega (arith, turn.long, up.inside, front.within)) (omega (arith, up.inside, front.within))
    (λ i low. elim (cases_order i r) [
      | inl e ↦ high_then i low (omega arith) high_places up
      | inr (inl less) ↦ low_places i less
      | inr (inr more) ↦ high_then i low (omega arith) high_places up
    ])
    (omega (arith, high_places j (omega (arith, up.inside, front.within)), up.above)))
  where
    high_then : (i : ℕ) {j : ℕ} → i < parts.rest + j → parts.rest ≤ i → ((t : ℕ) → parts.rest + t < length word → get_or (drop (parts.times * p) word ++ take (parts.times * p) word) (parts.rest + t) 0 ≡ get_or word t 0) → Rises word p parts.rest j → get_or (drop (parts.times * p) word ++ take (parts.times * p) word) i 0 ≡ get_or word i 0
    high_then i low past high up =
        let place : i ≡ parts.rest + (i - parts.rest) = omega arith in
        ap (λ q. get_or (drop (parts.times * p) word ++ take (parts.times * p) word) q 0) place ∙ high (i - parts.rest) (omega (arith, up.inside, front.within)) ∙ sym (up.same (i - parts.rest) (omega arith)) ∙ at word (parts.rest + (i - parts.rest)) i (omega arith)

pub whole_where_least : (word : List ℕ) (p : ℕ) → FrontRepeats word (length word) p → IsLeastRotation word → length word % p ≡ 0
unfolding parted
whole_where_least word p front least = elim (cases_order (length word % p) 0) [
  | inl e ↦ e
  | inr (inl none) ↦ absurd (omega arith)
  | inr (inr some) ↦ absurd (less_turned word p front (parted (length word) p front.some) some least)
]

-- what is told of a word
pub told_least : (word : List ℕ) (p : ℕ) → Tells word (length word) p → 0 < p → (length word % p ≡ 0) ↔ IsLeastRotation word
told_least word zero told some = absurd (omega arith)
told_least word (suc p) told some = (least_where_whole word (suc p) told, whole_where_least word (suc p) told)

pub told_not_least : (word : List ℕ) (p : ℕ) → Tells word (length word) p → p ≡ 0 → IsLeastRotation word → ⊥
told_not_least word zero told none = never_least word told
told_not_least word (suc p) told none = absurd (omega arith)

-- the empty word has no other rotation
pub empty_least : (word : List ℕ) → length word ≡ 0 → IsLeastRotation word
empty_least word none other turned less =
    let turn : Turn word other (length turned.0) = turn_of word other turned.0 turned.1 turned.2 turned.3 in
    let (j, found) = first_place other word turn.long less in
    omega (arith, found.inside, turn.long)

-- each front turns back or repeats its first steps
grown : (word : List ℕ) (n : ℕ) → ((p : ℕ) × FrontRepeats word n p) ⊎ FrontTurns word n → ((p : ℕ) × FrontRepeats word (n + 1) p) ⊎ FrontTurns word (n + 1)
grown word n (inr turned) = inr (still_turned word n (n + 1) (omega arith) turned)
grown word n (inl found) = elim (cases_order (get_or word n 0) (get_or word (n - found.0) 0)) [
  | inl e ↦ inl (found.0, goes_on word n found.0 found.1 e)
  | inr (inl less) ↦ inr (turns word n found.0 found.1 less)
  | inr (inr more) ↦ inl (n + 1, begins_anew word n found.0 found.1 more)
]

either : (word : List ℕ) (n : ℕ) → ((p : ℕ) × FrontRepeats word (n + 1) p) ⊎ FrontTurns word (n + 1)
either word zero = inl (1, first_step word)
either word (suc n) =
    let e : n + 1 ≡ suc n = omega arith in
    grown word (suc n) (subst (λ m. ((p : ℕ) × FrontRepeats word m p) ⊎ FrontTurns word m) e (either word n))

-- the period of the whole front is the least one
pub is_period : (word : List ℕ) (p : ℕ) → FrontRepeats word (length word) p → IsPeriod word p
is_period word p front = record {
  some = front.some;
  within = front.within;
  repeats = front.repeats;
  least = λ less some few again.
      let (j, up) = front.rises less some few in
      omega (arith, again j (omega (arith, up.inside, front.within)), at word (j + less) (less + j) (omega arith), up.above);
}

one_period : (word : List ℕ) (p q : ℕ) → IsPeriod word p → IsPeriod word q → p ≡ q
one_period word p q one other = elim (cases_order p q) [
  | inl e ↦ e
  | inr (inl less) ↦ absurd (other.least p one.some less one.repeats)
  | inr (inr more) ↦ absurd (one.least q other.some more other.repeats)
]

pub whole_front : (word : List ℕ) (n : ℕ) → n + 1 ≡ length word → ((p : ℕ) × FrontRepeats word (length word) p) ⊎ FrontTurns word (length word)
whole_front word n e = subst (λ m. ((p : ℕ) × FrontRepeats word m p) ⊎ FrontTurns word m) e (either word n)

pub least_rotations : (word : List ℕ) (period : ℕ) → IsPeriod word period → IsLeastRotation word ↔ ((TurnsBack word → ⊥) × (length word % period ≡ 0))
least_rotations word period one = by (whole_front word (length word - 1) (omega (arith, one.some, one.within)))
  where
    by : ((p : ℕ) × FrontRepeats word (length word) p) ⊎ FrontTurns word (length word) → IsLeastRotation word ↔ ((TurnsBack word → ⊥) × (length word % period ≡ 0))
    by (inr turned) = (λ least. absurd (never_least word turned least), λ h. absurd (h.0 (turned_back word turned)))
    by (inl found) =
        let same : found.0 ≡ period = one_period word found.0 period (is_period word found.0 found.1) one in (
          λ least. (λ turned. not_both word (length word) found.0 found.1 (falls word turned), subst (λ p. length word % p ≡ 0) same (whole_where_least word found.0 found.1 least)),
          λ h. least_where_whole word found.0 found.1 (subst (λ p. length word % p ≡ 0) (sym same) h.1),
        )
