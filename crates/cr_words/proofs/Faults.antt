-- The first fault of assigned values.
use Rattle.std.proofs.Common.{◌≡◌, ◌∙◌, refl, ap, sym, arith, cond, ℕ, Bool, true, false, not, ◌||◌, Option, Some, None, is_some, List, [], ◌∷◌, length, get_or}
use Rattle.std.specs.Prelude.{filter}
use Rattle.std.specs.Option.{option_map_or}
use Rattle.cr_words.specs.Values.{Assigned, Task, workers_of, turns_of, number_for, task_of, every_of, into_of, exceeds, has_both, is_mixed, has_fault, order, faults_of}
use Rattle.cr_words.specs.Readings.{IsFirst}
use Rattle.cr_words.specs.declared.fault.WordsFault.{WordsFault}
use Rattle.cr_words.specs.declared.fault.WordsFault.TheVariants.{Workers, Turns, Number, Mode as NoMode, Every, Into, Mixed}

-- the faults that are looked for after each
abbrev after_every : List WordsFault
after_every = Into ∷ Mixed ∷ []

abbrev after_mode : List WordsFault
after_mode = Every ∷ after_every

abbrev after_number : List WordsFault
after_number = NoMode ∷ after_mode

abbrev after_turns : List WordsFault
after_turns = Number ∷ after_number

abbrev after_workers : List WordsFault
after_workers = Turns ∷ after_turns

passes : (a : Assigned) (f : WordsFault) (rest : List WordsFault) → has_fault a f ≡ false
    → filter (has_fault a) (f ∷ rest) ≡ filter (has_fault a) rest
passes a f rest is = ap (λ b. cond b (f ∷ filter (has_fault a) rest) (filter (has_fault a) rest)) is

stops : (a : Assigned) (f : WordsFault) (rest : List WordsFault) → has_fault a f ≡ true
    → filter (has_fault a) (f ∷ rest) ≡ f ∷ filter (has_fault a) rest
stops a f rest is = ap (λ b. cond b (f ∷ filter (has_fault a) rest) (filter (has_fault a) rest)) is

past_workers : (a : Assigned) (n : ℕ) → workers_of a ≡ Some n → faults_of a ≡ filter (has_fault a) after_workers
unfolding faults_of has_fault
past_workers a n is = passes a Workers after_workers (ap (λ o. not (is_some o)) is)

past_turns : (a : Assigned) (n : ℕ) (t : Option ℕ) → workers_of a ≡ Some n → turns_of a ≡ Some t → faults_of a ≡ filter (has_fault a) after_turns
unfolding has_fault
past_turns a n t is also = past_workers a n is ∙ passes a Turns after_turns (ap (λ o. not (is_some o)) also)

past_number : (a : Assigned) (n : ℕ) (t : Option ℕ) (k : ℕ) → workers_of a ≡ Some n → turns_of a ≡ Some t → number_for a ≡ Some k
    → faults_of a ≡ filter (has_fault a) after_number
unfolding has_fault
past_number a n t k is also too = past_turns a n t is also ∙ passes a Number after_number (ap (λ o. not (is_some o)) too)

past_mode : (a : Assigned) (n : ℕ) (t : Option ℕ) (k : ℕ) (task : Task) → workers_of a ≡ Some n → turns_of a ≡ Some t
    → number_for a ≡ Some k → task_of a ≡ Some task → faults_of a ≡ filter (has_fault a) after_mode
unfolding has_fault
past_mode a n t k task is also too named =
    past_number a n t k is also too ∙ passes a NoMode after_mode (ap (λ o. not (is_some o)) named)

past_every : (a : Assigned) (n : ℕ) (t : Option ℕ) (k : ℕ) (task : Task) (h : Option ℕ) → workers_of a ≡ Some n → turns_of a ≡ Some t
    → number_for a ≡ Some k → task_of a ≡ Some task → every_of a ≡ Some h → faults_of a ≡ filter (has_fault a) after_every
unfolding has_fault
past_every a n t k task h is also too named each =
    past_mode a n t k task is also too named ∙ passes a Every after_every (ap (λ o. not (is_some o)) each)

past_into : (a : Assigned) (n : ℕ) (t : Option ℕ) (k : ℕ) (task : Task) (h : Option ℕ) (m : ℕ) → workers_of a ≡ Some n
    → turns_of a ≡ Some t → number_for a ≡ Some k → task_of a ≡ Some task → every_of a ≡ Some h → into_of a ≡ Some m
    → faults_of a ≡ filter (has_fault a) (Mixed ∷ [])
unfolding has_fault
past_into a n t k task h m is also too named each many =
    past_every a n t k task h is also too named each ∙ passes a Into (Mixed ∷ []) (ap (λ o. not (is_some o)) many)

mixed_by : (a : Assigned) (task : Task) → task_of a ≡ Some task → has_fault a Mixed ≡ is_mixed a task
unfolding has_fault
mixed_by a task named = ap (λ o. option_map_or (exceeds a) o false || has_both a) named

pub no_fault : (a : Assigned) (n : ℕ) (t : Option ℕ) (k : ℕ) (task : Task) (h : Option ℕ) (m : ℕ) → workers_of a ≡ Some n
    → turns_of a ≡ Some t → number_for a ≡ Some k → task_of a ≡ Some task → every_of a ≡ Some h → into_of a ≡ Some m
    → is_mixed a task ≡ false → faults_of a ≡ []
no_fault a n t k task h m is also too named each many unmixed =
    past_into a n t k task h m is also too named each many ∙ passes a Mixed [] (mixed_by a task named ∙ unmixed)

pub first_workers : (a : Assigned) → workers_of a ≡ None → IsFirst (faults_of a) Workers
unfolding faults_of has_fault
first_workers a none = (filter (has_fault a) after_workers, stops a Workers after_workers (ap (λ o. not (is_some o)) none))

pub first_turns : (a : Assigned) (n : ℕ) → workers_of a ≡ Some n → turns_of a ≡ None → IsFirst (faults_of a) Turns
unfolding has_fault
first_turns a n is none =
    (filter (has_fault a) after_turns, past_workers a n is ∙ stops a Turns after_turns (ap (λ o. not (is_some o)) none))

pub first_number : (a : Assigned) (n : ℕ) (t : Option ℕ) → workers_of a ≡ Some n → turns_of a ≡ Some t → number_for a ≡ None
    → IsFirst (faults_of a) Number
unfolding has_fault
first_number a n t is also none =
    (filter (has_fault a) after_number, past_turns a n t is also ∙ stops a Number after_number (ap (λ o. not (is_some o)) none))

pub first_mode : (a : Assigned) (n : ℕ) (t : Option ℕ) (k : ℕ) → workers_of a ≡ Some n → turns_of a ≡ Some t → number_for a ≡ Some k
    → task_of a ≡ None → IsFirst (faults_of a) NoMode
unfolding has_fault
first_mode a n t k is also too none =
    (filter (has_fault a) after_mode, past_number a n t k is also too ∙ stops a NoMode after_mode (ap (λ o. not (is_some o)) none))

pub first_every : (a : Assigned) (n : ℕ) (t : Option ℕ) (k : ℕ) (task : Task) → workers_of a ≡ Some n → turns_of a ≡ Some t
    → number_for a ≡ Some k → task_of a ≡ Some task → every_of a ≡ None → IsFirst (faults_of a) Every
unfolding has_fault
first_every a n t k task is also too named none =
    (filter (has_fault a) after_every, past_mode a n t k task is also too named ∙ stops a Every after_every (ap (λ o. not (is_some o)) none))

pub first_into : (a : Assigned) (n : ℕ) (t : Option ℕ) (k : ℕ) (task : Task) (h : Option ℕ) → workers_of a ≡ Some n → turns_of a ≡ Some t
    → number_for a ≡ Some k → task_of a ≡ Some task → every_of a ≡ Some h → into_of a ≡ None → IsFirst (faults_of a) Into
unfolding has_fault
first_into a n t k task h is also too named each none =
    (filter (has_fault a) (Mixed ∷ []), past_every a n t k task h is also too named each ∙ stops a Into (Mixed ∷ []) (ap (λ o. not (is_some o)) none))

pub first_mixed : (a : Assigned) (n : ℕ) (t : Option ℕ) (k : ℕ) (task : Task) (h : Option ℕ) (m : ℕ) → workers_of a ≡ Some n
    → turns_of a ≡ Some t → number_for a ≡ Some k → task_of a ≡ Some task → every_of a ≡ Some h → into_of a ≡ Some m
    → is_mixed a task ≡ true → IsFirst (faults_of a) Mixed
first_mixed a n t k task h m is also too named each many mixed =
    ([], past_into a n t k task h m is also too named each many ∙ stops a Mixed [] (mixed_by a task named ∙ mixed))

-- the first that is listed holds
held_by : (p : WordsFault → Bool) (x f : WordsFault) (xs rest : List WordsFault) (b : Bool) → p x ≡ b
    → (filter p xs ≡ f ∷ rest → p f ≡ true) → cond b (x ∷ filter p xs) (filter p xs) ≡ f ∷ rest → p f ≡ true
held_by p x f xs rest true is later e = ap p (sym (ap (λ (fs : List WordsFault). get_or fs 0 f) e)) ∙ is
held_by p x f xs rest false is later e = later e

held : (p : WordsFault → Bool) (xs : List WordsFault) (f : WordsFault) (rest : List WordsFault) → filter p xs ≡ f ∷ rest → p f ≡ true
held p [] f rest e = let counted : 0 ≡ length (f ∷ rest) = ap length e in absurd (omega (arith, counted))
held p (x ∷ xs) f rest e = held_by p x f xs rest (p x) refl (held p xs f rest) e

pub first_holds : (a : Assigned) (f : WordsFault) → IsFirst (faults_of a) f → has_fault a f ≡ true
unfolding faults_of
first_holds a f first = held (has_fault a) order f first.0 first.1
