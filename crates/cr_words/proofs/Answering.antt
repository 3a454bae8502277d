-- What the answer of the values is to the words.
use Rattle.std.proofs.Common.{◌≡◌, ◌∙◌, refl, ap, sym, ◌⊎◌, inl, inr, Bool, true, false, List, Ok, Err, IfOk, IfErr, subst}
use Rattle.std.specs.Prelude.{Result, MatchResult}
use Rattle.std.proofs.lemmas.Bool.{both_ways}
use Rattle.clap.specs.Words.{Row, Text}
use Rattle.cr_words.specs.Commands.{are_taken, assigned, assigned_in, rows_in}
use Rattle.cr_words.specs.Values.{Assigned, IsWishOf, has_fault, faults_of}
use Rattle.cr_words.specs.Readings.{IsFirst, IsRefused, IsAccepted, IsWordsFaultOf, MayFail}
use Rattle.cr_words.proofs.Faults.{first_holds}
use Rattle.cr_words.proofs.Wishes.{one_wish, not_both, one_first, wish_or_fault}
use Rattle.cr_words.specs.declared.fault.WordsFault.{WordsFault}
use Rattle.cr_words.specs.declared.fault.WordsFault.TheVariants.{Line, Workers, Turns, Number, Mode as NoMode, Mixed, NoMemory, Every, Into}
use Rattle.cr_words.specs.declared.wish.Wish.{Wish}

-- a fault of no value is none of theirs
of_value : (a : Assigned) (f : WordsFault) → has_fault a f ≡ false → IsFirst (faults_of a) f → ⊥
of_value a f fails first = both_ways true (sym (first_holds a f first) ∙ fails) refl

line_or_memory : (a : Assigned) → (has_fault a Line ≡ false) × (has_fault a NoMemory ≡ false)
unfolding has_fault
line_or_memory a = (refl, refl)

first_is_fault : (words : List Text) (f : WordsFault) → are_taken words ≡ true → IsFirst (faults_of (assigned words)) f → IsWordsFaultOf words f
first_is_fault words Line taken first = absurd (of_value (assigned words) Line (line_or_memory (assigned words)).0 first)
first_is_fault words Workers taken first = (taken, first)
first_is_fault words Turns taken first = (taken, first)
first_is_fault words Number taken first = (taken, first)
first_is_fault words NoMode taken first = (taken, first)
first_is_fault words Mixed taken first = (taken, first)
first_is_fault words Every taken first = (taken, first)
first_is_fault words Into taken first = (taken, first)
first_is_fault words NoMemory taken first = absurd (of_value (assigned words) NoMemory (line_or_memory (assigned words)).1 first)

-- the answer of the values, of words that are taken
pub answer_reads : (words : List Text) (a : Assigned) (r : Result Wish WordsFault) → are_taken words ≡ true → a ≡ assigned words
    → MatchResult r (IsWishOf a) (IsFirst (faults_of a)) → IfOk r (IsAccepted words)
answer_reads words a (Ok w) taken same is = (taken, subst (λ a. IsWishOf a w) same is)
answer_reads words a (Err f) taken same is = tt

pub answer_fails : (words : List Text) (a : Assigned) (r : Result Wish WordsFault) → are_taken words ≡ true → a ≡ assigned words
    → MatchResult r (IsWishOf a) (IsFirst (faults_of a)) → IfErr r (MayFail words)
answer_fails words a (Ok w) taken same is = tt
answer_fails words a (Err f) taken same is = inr (first_is_fault words f taken (subst (λ a. IsFirst (faults_of a) f) same is))

-- what the rows of clap assign
pub assigned_by : (words : List Text) (a : Assigned) (rows : List Row) → a ≡ assigned_in rows → rows ≡ rows_in words → a ≡ assigned words
unfolding assigned
assigned_by words a rows is found = is ∙ ap assigned_in found

-- what clap refuses
pub refused_may_fail : (words : List Text) (f : WordsFault) → IsRefused (are_taken words) f → MayFail words f
refused_may_fail words Line is = inr is
refused_may_fail words Workers is = absurd is
refused_may_fail words Turns is = absurd is
refused_may_fail words Number is = absurd is
refused_may_fail words NoMode is = absurd is
refused_may_fail words Mixed is = absurd is
refused_may_fail words Every is = absurd is
refused_may_fail words Into is = absurd is
refused_may_fail words NoMemory is = inl refl

-- words are accepted or have one fault
fault_parts : (words : List Text) (f : WordsFault) → IsWordsFaultOf words f
    → ((f ≡ Line) × (are_taken words ≡ false)) ⊎ ((are_taken words ≡ true) × IsFirst (faults_of (assigned words)) f)
fault_parts words Line is = inl (refl, is)
fault_parts words Workers is = inr is
fault_parts words Turns is = inr is
fault_parts words Number is = inr is
fault_parts words NoMode is = inr is
fault_parts words Mixed is = inr is
fault_parts words Every is = inr is
fault_parts words Into is = inr is
fault_parts words NoMemory is = absurd is

pub not_accepted : (words : List Text) (w : Wish) (f : WordsFault) → IsAccepted words w → IsWordsFaultOf words f → ⊥
not_accepted words w f is fails = by (fault_parts words f fails)
  where
    by : ((f ≡ Line) × (are_taken words ≡ false)) ⊎ ((are_taken words ≡ true) × IsFirst (faults_of (assigned words)) f) → ⊥
    by (inl line) = both_ways _ line.1 is.0
    by (inr first) = not_both (assigned words) w f is.1 first.1

pub one_fault : (words : List Text) (f g : WordsFault) → IsWordsFaultOf words f → IsWordsFaultOf words g → f ≡ g
one_fault words f g is also = by (fault_parts words f is) (fault_parts words g also)
  where
    by : ((f ≡ Line) × (are_taken words ≡ false)) ⊎ ((are_taken words ≡ true) × IsFirst (faults_of (assigned words)) f)
        → ((g ≡ Line) × (are_taken words ≡ false)) ⊎ ((are_taken words ≡ true) × IsFirst (faults_of (assigned words)) g) → f ≡ g
    by (inl line) (inl other) = line.0 ∙ sym other.0
    by (inl line) (inr other) = absurd (both_ways _ line.1 other.0)
    by (inr first) (inl other) = absurd (both_ways _ other.1 first.0)
    by (inr first) (inr other) = one_first (faults_of (assigned words)) f g first.1 other.1

pub accepted_or_fault : (words : List Text) → ((w : Wish) × IsAccepted words w) ⊎ ((f : WordsFault) × IsWordsFaultOf words f)
accepted_or_fault words = by (are_taken words) refl
  where
    of_taken : are_taken words ≡ true → ((w : Wish) × IsWishOf (assigned words) w) ⊎ ((f : WordsFault) × IsFirst (faults_of (assigned words)) f)
        → ((w : Wish) × IsAccepted words w) ⊎ ((f : WordsFault) × IsWordsFaultOf words f)
    of_taken taken (inl wish) = inl (wish.0, (taken, wish.1))
    of_taken taken (inr fault) = inr (fault.0, first_is_fault words fault.0 taken fault.1)

    by : (b : Bool) → are_taken words ≡ b → ((w : Wish) × IsAccepted words w) ⊎ ((f : WordsFault) × IsWordsFaultOf words f)
    by true taken = of_taken taken (wish_or_fault (assigned words))
    by false taken = inr (Line, taken)

-- accepted words give their wish, and others their fault, or there was not enough memory
abbrev refused_with : WordsFault → Result Wish WordsFault
refused_with f = Err f

pub accepted_answer : (words : List Text) (r : Result Wish WordsFault) → IfOk r (IsAccepted words) → IfErr r (MayFail words)
    → (w : Wish) → IsAccepted words w → (r ≡ Ok w) ⊎ (r ≡ Err NoMemory)
accepted_answer words (Ok v) reads fails w is = inl (ap (λ (x : Wish). Ok x) (one_wish (assigned words) v w reads.1 is.1))
accepted_answer words (Err f) reads (inl memory) w is = inr (ap refused_with memory)
accepted_answer words (Err f) reads (inr fault) w is = absurd (not_accepted words w f is fault)

pub refused_answer : (words : List Text) (r : Result Wish WordsFault) → IfOk r (IsAccepted words) → IfErr r (MayFail words)
    → (f : WordsFault) → IsWordsFaultOf words f → (r ≡ Err f) ⊎ (r ≡ Err NoMemory)
refused_answer words (Ok v) reads fails f is = absurd (not_accepted words v f reads is)
refused_answer words (Err g) reads (inl memory) f is = inr (ap refused_with memory)
refused_answer words (Err g) reads (inr fault) f is = inl (ap refused_with (one_fault words g f fault is))
