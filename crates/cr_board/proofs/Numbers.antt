-- Job numbers: how often each stands in a lane.
use Rattle.std.proofs.Common.{◌≡◌, ℕ, zero, suc, ◌+◌, ◌<◌, ◌≤◌, Bool, true, false, cond, nat_eq, List, [], ◌∷◌, ◌++◌, length, get_or, count_by, Contains, refl, sym, ap, ◌∙◌, arith, eqb-true, eq-eqb}
use Rattle.std.specs.Prelude.{remove}
use Rattle.std.specs.List.{range_with_len}
use Rattle.std.proofs.lemmas.Bool.{ne_eqb, eqb-false}
use Rattle.std.proofs.lemmas.List.{get_or-map, length-map}
use Rattle.std.proofs.lemmas.List.Sums.{sum_by-append, sum_by-cons}
use Rattle.cr_board.specs.Jobs.{JobParts, numbered}
use Rattle.cr_board.specs.ReplayStates.{without, numbers_of}

-- how often a number stands in a list
abbrev pub times : ℕ → List ℕ → ℕ
times number xs = count_by (λ x. nat_eq x number) xs

abbrev pub one_if : ℕ → ℕ → ℕ
one_if x number = cond (nat_eq x number) 1 0

pub times_more : (number x : ℕ) (xs : List ℕ) → times number (x ∷ xs) ≡ one_if x number + times number xs
times_more number x xs = sum_by-cons (λ y. one_if y number) x xs

pub times_joined : (number : ℕ) (xs ys : List ℕ) → times number (xs ++ ys) ≡ times number xs + times number ys
times_joined number xs ys = sum_by-append (λ y. one_if y number) xs ys

pub one_same : (x number : ℕ) → x ≡ number → one_if x number ≡ 1
one_same x number e = ap (λ b. cond b 1 0) (eq-eqb x number e)

pub one_other : (x number : ℕ) → (x ≡ number → ⊥) → one_if x number ≡ 0
one_other x number e = ap (λ b. cond b 1 0) (ne_eqb x number e)

-- a number that stands somewhere stands at least once
pub times_some : (number : ℕ) (xs : List ℕ) (i d : ℕ) → i < length xs → get_or xs i d ≡ number → 1 ≤ times number xs
times_some number [] i d inside at = absurd (omega arith)
times_some number (x ∷ xs) zero d inside at = omega (arith, times_more number x xs, one_same x number at)
times_some number (x ∷ xs) (suc i) d inside at = omega (arith, times_more number x xs, times_some number xs i d (omega arith) at)

-- without one of them
pub times_without : (number other : ℕ) (xs : List ℕ) → Contains xs other → times number (without other xs) + one_if other number ≡ times number xs
times_without number other [] held = absurd (omega (arith, held.1))
times_without number other (x ∷ xs) (zero, inside, at) =
    let here : without other (x ∷ xs) ≡ xs = ap (λ b. cond b xs (x ∷ without other xs)) (eq-eqb x other at) in
    let same : one_if other number ≡ one_if x number = ap (λ y. one_if y number) (sym at) in
    let left : times number (without other (x ∷ xs)) ≡ times number xs = ap (times number) here in
    omega (arith, times_more number x xs, same, left)
times_without number other (x ∷ xs) (suc i, inside, at) = by (nat_eq x other) refl (times_without number other xs (i, omega arith, at))
  where
    by : (b : Bool) → nat_eq x other ≡ b → times number (without other xs) + one_if other number ≡ times number xs
        → times number (without other (x ∷ xs)) + one_if other number ≡ times number (x ∷ xs)
    by true e later =
        let left : times number (without other (x ∷ xs)) ≡ times number xs = ap (λ b. times number (cond b xs (x ∷ without other xs))) e in
        let same : one_if other number ≡ one_if x number = ap (λ y. one_if y number) (sym (eqb-true x other e)) in
        omega (arith, times_more number x xs, left, same)
    by false e later =
        let left : times number (without other (x ∷ xs)) ≡ times number (x ∷ without other xs) = ap (λ b. times number (cond b xs (x ∷ without other xs))) e in
        omega (arith, times_more number x xs, times_more number x (without other xs), left, later)

-- numbers one after another stand once, and no others stand
pub times_range : (number from count : ℕ) → (times number (range_with_len from count) ≤ 1)
    × (number < from → times number (range_with_len from count) ≡ 0) × (from + count ≤ number → times number (range_with_len from count) ≡ 0)
times_range number from zero = (omega arith, λ h. refl, λ h. refl)
times_range number from (suc count) = by (nat_eq from number) refl (times_range number (from + 1) count)
  where
    by : (b : Bool) → nat_eq from number ≡ b
        → (times number (range_with_len (from + 1) count) ≤ 1) × (number < from + 1 → times number (range_with_len (from + 1) count) ≡ 0)
        × (from + 1 + count ≤ number → times number (range_with_len (from + 1) count) ≡ 0)
        → (times number (range_with_len from (suc count)) ≤ 1) × (number < from → times number (range_with_len from (suc count)) ≡ 0)
        × (from + suc count ≤ number → times number (range_with_len from (suc count)) ≡ 0)
    by true e (few, low, high) =
        let same = eqb-true from number e in
        let none = low (omega arith) in
        let more = times_more number from (range_with_len (from + 1) count) in
        let one = one_same from number same in
        (omega (arith, more, one, none), λ h. absurd (omega arith), λ h. absurd (omega arith))
    by false e (few, low, high) =
        let more = times_more number from (range_with_len (from + 1) count) in
        let none = one_other from number (eqb-false from number e) in
        (omega (arith, more, none), λ h. omega (arith, more, none, low (omega arith)), λ h. omega (arith, more, none, high (omega arith)))

-- the numbers of numbered jobs
pub numbers_are : (next : ℕ) (jobs : List (List (List ℕ))) → numbers_of (numbered next jobs) ≡ range_with_len next (length jobs)
numbers_are next [] = refl
numbers_are next (nodes ∷ jobs) = ap (λ xs. next ∷ xs) (numbers_are (next + 1) jobs)

-- to take the job at a place is to take its number, where that stands once
pub removed_is_without : (jobs : List JobParts) (place : ℕ) (d : JobParts) → place < length jobs
    → times (get_or jobs place d).number (numbers_of jobs) ≤ 1 → numbers_of (remove jobs place) ≡ without (get_or jobs place d).number (numbers_of jobs)
removed_is_without [] place d inside once = absurd (omega arith)
removed_is_without (job ∷ jobs) zero d inside once =
    sym (ap (λ b. cond b (numbers_of jobs) (job.number ∷ without job.number (numbers_of jobs))) (eq-eqb job.number job.number refl))
removed_is_without (job ∷ jobs) (suc place) d inside once =
    let number = (get_or jobs place d).number in
    let more = times_more number job.number (numbers_of jobs) in
    let at = get_or-map (λ j. j.number) jobs place d 0 (omega arith) in
    let some = times_some number (numbers_of jobs) place 0 (omega (arith, length-map jobs (λ j. j.number))) at in
    let differ : job.number ≡ number → ⊥ = λ e. absurd (omega (arith, more, some, once, one_same job.number number e)) in
    ap (λ xs. job.number ∷ xs) (removed_is_without jobs place d (omega arith) (omega (arith, more, once)))
    ∙ sym (ap (λ b. cond b (numbers_of jobs) (job.number ∷ without number (numbers_of jobs))) (ne_eqb job.number number differ))
