-- What is kept of a word, as it grows and shrinks.
use Rattle.std.proofs.Common.{◌≡◌, ℕ, zero, suc, ◌+◌, ◌-◌, ◌<◌, ◌≤◌, ◌↔◌, List, [], ◌∷◌, ◌++◌, length, get_or, take, refl, sym, ◌∙◌, subst, inl, inr, arith, length-append}
use Rattle.std.proofs.lemmas.Bool.{cases_order}
use Rattle.std.proofs.lemmas.List.{length-take-le, get_or-take, get_or_append_left, get_or_at}
use Rattle.cr_model.specs.LeastRotations.{TurnsBack}
use Rattle.cr_rotate.specs.Fronts.{FrontTurns, FrontRepeats, Tells, IsKept}
use Rattle.cr_rotate.proofs.Periods.{turns, still_turned, goes_on, begins_anew, first_step, not_both}
use Rattle.cr_rotate.proofs.WholeFronts.{falls, turned_back}

-- a front is told by its own steps
pub repeats_alike : (word other : List ℕ) (n p : ℕ) → ((i : ℕ) → i < n → get_or word i 0 ≡ get_or other i 0) → FrontRepeats word n p → FrontRepeats other n p
repeats_alike word other n p same front = record {
  some = front.some;
  within = front.within;
  repeats = λ i inside. sym (same (i + p) inside) ∙ front.repeats i inside ∙ same i (omega arith);
  rises = λ k some few. let (j, up) = front.rises k some few in (
    j,
    record {
      inside = up.inside;
      same = λ i low. sym (same (k + i) (omega (arith, up.inside, front.within))) ∙ up.same i low ∙ same i (omega (arith, up.inside, front.within));
      above = omega (arith, up.above, same j (omega (arith, up.inside, front.within)), same (k + j) (omega (arith, up.inside, front.within)));
    },
  );
}

turns_alike : (word other : List ℕ) (n : ℕ) → ((i : ℕ) → i < n → get_or word i 0 ≡ get_or other i 0) → FrontTurns word n → FrontTurns other n
turns_alike word other n same turned =
    let k = turned.0 in
    let j = turned.1 in
    let down = turned.2 in (
      k,
      j,
      record {
        moved = down.moved;
        inside = down.inside;
        same = λ i low. sym (same (k + i) (omega (arith, down.inside))) ∙ down.same i low ∙ same i (omega (arith, down.inside));
        below = omega (arith, down.below, same j (omega (arith, down.inside)), same (k + j) (omega (arith, down.inside)));
      },
    )

tells_alike : (word other : List ℕ) (n p : ℕ) → ((i : ℕ) → i < n → get_or word i 0 ≡ get_or other i 0) → Tells word n p → Tells other n p
tells_alike word other n zero same told = turns_alike word other n same told
tells_alike word other n (suc p) same told = repeats_alike word other n (suc p) same told

longer_alike : (word : List ℕ) (x i : ℕ) → i < length word → get_or word i 0 ≡ get_or (word ++ x ∷ []) i 0
longer_alike word x i low = sym (get_or_append_left word (x ∷ []) 0 i low)

-- no step, and nothing kept
pub none_kept : IsKept [] []
none_kept = record { few = omega arith; long = refl; each = λ i low. absurd (omega arith) }

-- one step more
pub one_more : (word periods : List ℕ) (x p : ℕ) → IsKept word periods → length word < 1024 → Tells (word ++ x ∷ []) (length word + 1) p → IsKept (word ++ x ∷ []) (periods ++ p ∷ [])
one_more word periods x p kept few told =
    let long : length (word ++ x ∷ []) ≡ length word + 1 = length-append word (x ∷ []) in
    let long' : length (periods ++ p ∷ []) ≡ length periods + 1 = length-append periods (p ∷ []) in
    record {
      few = omega arith;
      long = omega (arith, kept.long);
      each = λ i low. elim (cases_order i (length word)) [
        | inl e ↦
            let last : get_or (periods ++ p ∷ []) i 0 ≡ p = get_or_at periods p [] 0 i (kept.long ∙ sym e) in
            subst (λ q. Tells (word ++ x ∷ []) (i + 1) q) (sym last) (subst (λ n. Tells (word ++ x ∷ []) (n + 1) p) (sym e) told)
        | inr (inl less) ↦
            let same : get_or (periods ++ p ∷ []) i 0 ≡ get_or periods i 0 = get_or_append_left periods (p ∷ []) 0 i (omega (arith, kept.long)) in
            subst (λ q. Tells (word ++ x ∷ []) (i + 1) q) (sym same) (tells_alike word (word ++ x ∷ []) (i + 1) (get_or periods i 0) (λ k inside. longer_alike word x k (omega arith)) (kept.each i less))
        | inr (inr more) ↦ absurd (omega arith)
      ];
    }

-- the front alone
pub cut : (word periods : List ℕ) (m : ℕ) → IsKept word periods → m ≤ length word → IsKept (take m word) (take m periods)
cut word periods m kept within =
    let long : length (take m word) ≡ m = length-take-le m word within in
    let long' : length (take m periods) ≡ m = length-take-le m periods (omega (arith, kept.long)) in
    record {
      few = omega (arith, kept.few);
      long = omega arith;
      each = λ i low.
          let same : get_or (take m periods) i 0 ≡ get_or periods i 0 = get_or-take m periods i 0 (omega arith) in
          subst (λ q. Tells (take m word) (i + 1) q) (sym same) (tells_alike word (take m word) (i + 1) (get_or periods i 0) (λ k inside. sym (get_or-take m word k 0 (omega arith))) (kept.each i (omega arith)));
    }

-- what is kept for the whole word
pub whole : (word periods : List ℕ) (i : ℕ) → IsKept word periods → 0 < length word → i ≡ length periods - 1 → Tells word (length word) (get_or periods i 0)
whole word periods i kept some last =
    let end : i + 1 ≡ length word = omega (arith, kept.long) in
    subst (λ n. Tells word n (get_or periods i 0)) end (kept.each i (omega arith))

-- what is kept of a longer word
pub of_one : (word : List ℕ) (n : ℕ) → n ≡ 0 → Tells word (n + 1) 1
of_one word n e = subst (λ m. FrontRepeats word (m + 1) 1) (sym e) (first_step word)

pub of_turned : (word : List ℕ) (x p : ℕ) → p ≡ 0 → Tells word (length word) p → Tells (word ++ x ∷ []) (length word + 1) 0
of_turned word x p none told =
    let turned : FrontTurns word (length word) = subst (Tells word (length word)) none told in
    still_turned (word ++ x ∷ []) (length word) (length word + 1) (omega arith) (turns_alike word (word ++ x ∷ []) (length word) (longer_alike word x) turned)

tells_period : (word : List ℕ) (n p : ℕ) → FrontRepeats word n p → Tells word n p
tells_period word n zero front = absurd (omega (arith, front.some))
tells_period word n (suc p) front = front

pub of_period : (word : List ℕ) (n p : ℕ) → 0 < p → Tells word n p → FrontRepeats word n p
of_period word n zero some told = absurd (omega arith)
of_period word n (suc p) some told = told

-- the step that comes, and the one that stands a period before it
record Next (word : List ℕ) (x p before : ℕ) : Type 0 where
  front : FrontRepeats (word ++ x ∷ []) (length word) p
  last : get_or (word ++ x ∷ []) (length word) 0 ≡ x
  back : get_or (word ++ x ∷ []) (length word - p) 0 ≡ before

next : (word : List ℕ) (x p before : ℕ) → FrontRepeats word (length word) p → before ≡ get_or word (length word - p) 0 → Next word x p before
next word x p before front is = record {
  front = repeats_alike word (word ++ x ∷ []) (length word) p (longer_alike word x) front;
  last = get_or_at word x [] 0 (length word) refl;
  back = get_or_append_left word (x ∷ []) 0 (length word - p) (omega (arith, front.some, front.within)) ∙ sym is;
}

pub of_less : (word : List ℕ) (x p before : ℕ) → FrontRepeats word (length word) p → before ≡ get_or word (length word - p) 0 → x < before → Tells (word ++ x ∷ []) (length word + 1) 0
of_less word x p before front is less =
    let on = next word x p before front is in
    turns (word ++ x ∷ []) (length word) p on.front (omega (arith, on.last, on.back))

pub of_same : (word : List ℕ) (x p before : ℕ) → FrontRepeats word (length word) p → before ≡ get_or word (length word - p) 0 → x ≡ before → Tells (word ++ x ∷ []) (length word + 1) p
of_same word x p before front is same =
    let on = next word x p before front is in
    tells_period (word ++ x ∷ []) (length word + 1) p (goes_on (word ++ x ∷ []) (length word) p on.front (omega (arith, on.last, on.back)))

pub of_greater : (word : List ℕ) (x p before q : ℕ) → FrontRepeats word (length word) p → before ≡ get_or word (length word - p) 0 → before < x → q ≡ length word + 1 → Tells (word ++ x ∷ []) (length word + 1) q
of_greater word x p before q front is more same =
    let on = next word x p before front is in
    tells_period (word ++ x ∷ []) (length word + 1) q (subst (FrontRepeats (word ++ x ∷ []) (length word + 1)) (sym same) (begins_anew (word ++ x ∷ []) (length word) p on.front (omega (arith, on.last, on.back))))

-- whether the word turns back
pub told_turned : (word : List ℕ) (p : ℕ) → Tells word (length word) p → (p ≡ 0) ↔ TurnsBack word
told_turned word zero told = (λ e. turned_back word told, λ turned. refl)
told_turned word (suc p) told = (λ e. absurd (omega arith), λ turned. absurd (not_both word (length word) (suc p) told (falls word turned)))

-- the same with one step more
pub told_turned_with : (word : List ℕ) (x p : ℕ) → Tells (word ++ x ∷ []) (length word + 1) p → (p ≡ 0) ↔ TurnsBack (word ++ x ∷ [])
told_turned_with word x p told = told_turned (word ++ x ∷ []) p (subst (λ n. Tells (word ++ x ∷ []) n p) (sym (length-append word (x ∷ []))) told)

-- a word that repeats its first steps turns back with a step that is less than the one that these bring next
pub straight_from : (word : List ℕ) (x p before : ℕ) → FrontRepeats word (length word) p → before ≡ get_or word (length word - p) 0 → TurnsBack (word ++ x ∷ []) ↔ (x < before)
straight_from word x p before front is = elim (cases_order x before) [
  | inl same ↦ (λ turned. absurd (omega (arith, front.some, (told_turned_with word x p (of_same word x p before front is same)).1 turned)), λ less. absurd (omega (arith, less, same)))
  | inr (inl less) ↦ (λ turned. less, λ again. (told_turned_with word x 0 (of_less word x p before front is less)).0 refl)
  | inr (inr more) ↦ (
    λ turned. absurd (omega (arith, (told_turned_with word x (length word + 1) (of_greater word x p before (length word + 1) front is more refl)).1 turned)),
    λ less. absurd (omega (arith, less, more)),
  )
]

-- one that turned back does with each step
pub straight_never : (word : List ℕ) (x : ℕ) → Tells word (length word) 0 → TurnsBack (word ++ x ∷ [])
straight_never word x told = (told_turned_with word x 0 (of_turned word x 0 refl told)).0 refl

-- a step alone does not
pub straight_alone : (word : List ℕ) (x : ℕ) → length word ≡ 0 → TurnsBack (word ++ x ∷ []) ↔ (x < 0)
straight_alone word x none =
    (λ turned. absurd (omega (arith, (told_turned_with word x 1 (of_one (word ++ x ∷ []) (length word) none)).1 turned)), λ less. absurd (omega (arith, less)))

-- the empty word does not
pub empty_turns : (word : List ℕ) → length word ≡ 0 → TurnsBack word → ⊥
empty_turns word none turned = let down = (falls word turned).2 in omega (arith, down.inside)
