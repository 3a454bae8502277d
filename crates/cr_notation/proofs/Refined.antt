-- The reader's loop gives what reading gives.
use Rattle.std.proofs.Common.{◌≡◌, ◌≢◌, ℕ, ◌+◌, ◌<◌, ◌≤◌, true, false, cond, List, length, get_or, drop, Result, Ok, Err, refl, sym, ap, subst, ◌∙◌, arith}
use Rattle.std.specs.Prelude.{nat_lt, IfOk, IfErr}
use Rattle.std.proofs.lemmas.List.{drop_more, drop_all}
use Rattle.std.proofs.lemmas.Bool.Decides.{nat_tests}
use Rattle.cr_row.specs.Rows.{Places}
use Rattle.cr_model.specs.declared.notation.NotationFault.{NotationFault}
use Rattle.cr_model.specs.declared.notation.NotationFault.TheVariants as fault
use Rattle.cr_model.specs.Notation.{Spells}
use Rattle.cr_model.specs.NotationFaults.{FirstFault}
use Rattle.cr_notation.specs.Reading.{State, kept_of, kept_read, byte_step, end_step, then_all, read_from, limited, read_all}
use Rattle.cr_notation.specs.Refining.{Fails, Gives}
use Rattle.cr_notation.proofs.KeptReading.{rest_kept}
use Rattle.cr_notation.proofs.Decided.{IsAnswer, read_answers}

-- one byte more
byte_first : (n : ℕ) (s : State) (i : ℕ) (bytes : List ℕ) → i < length bytes → read_from n s i (drop i bytes) ≡ then_all (byte_step n s i (get_or bytes i 0)) (λ after. read_from n after (i + 1) (drop (i + 1) bytes))
unfolding read_from
byte_first n s i bytes low = ap (read_from n s i) (drop_more bytes i 0 low)

same_ok : (s t : State) → kept_read (Ok s) ≡ kept_read (Ok t) → kept_of s ≡ kept_of t
same_ok s t same = cc

ok_read : (r : Result State NotationFault) (after : State) → kept_read r ≡ kept_read (Ok after) → (t : State) × (r ≡ Ok t) × (kept_of t ≡ kept_of after)
ok_read (Ok t) after same = (t, refl, same_ok t after same)
ok_read (Err f) after same = absurd (cc)

pub one_more : (n m : ℕ) (s after : State) (i : ℕ) (bytes : List ℕ) (total : Result (List Places) NotationFault) → i < length bytes
    → kept_read (byte_step n s i (get_or bytes i 0)) ≡ kept_read (Ok after)
    → limited m (read_from n s i (drop i bytes)) ≡ total → limited m (read_from n after (i + 1) (drop (i + 1) bytes)) ≡ total
one_more n m s after i bytes total low steps so_far =
    let rest : List ℕ = drop (i + 1) bytes in
    let (t, is, same) = ok_read (byte_step n s i (get_or bytes i 0)) after steps in
    let first : read_from n s i (drop i bytes) ≡ read_from n t (i + 1) rest = byte_first n s i bytes low ∙ ap (λ r. then_all r (λ u. read_from n u (i + 1) rest)) is in
    sym (rest_kept m n after (i + 1) rest) ∙ ap (λ u. limited m (read_from n u (i + 1) rest)) (sym same) ∙ rest_kept m n t (i + 1) rest ∙ ap (limited m) (sym first) ∙ so_far

-- a fault goes through
pub fails_by : {A B : Type 0} (f : NotationFault) (r : Result A NotationFault) (all : Result B NotationFault) → ((g : NotationFault) → r ≡ Err g → all ≡ Err g) → Fails f r → Fails f all
fails_by fault.NoMemory r all through h = tt
fails_by (fault.Symbol k) r all through h = through (fault.Symbol k) h
fails_by (fault.Above k) r all through h = through (fault.Above k) h
fails_by (fault.Order k) r all through h = through (fault.Order k) h
fails_by (fault.Gap k) r all through h = through (fault.Gap k) h
fails_by (fault.CrossOnOdd k) r all through h = through (fault.CrossOnOdd k) h
fails_by (fault.Dot k) r all through h = through (fault.Dot k) h
fails_by (fault.EmptyBlock k) r all through h = through (fault.EmptyBlock k) h
fails_by (fault.SecondComma k) r all through h = through (fault.SecondComma k) h
fails_by (fault.Long k) r all through h = through (fault.Long k) h

pub fails_is : {A : Type 0} (f : NotationFault) (r : Result A NotationFault) → f ≢ fault.NoMemory → Fails f r → r ≡ Err f
fails_is fault.NoMemory r other h = absurd (other refl)
fails_is (fault.Symbol k) r other h = h
fails_is (fault.Above k) r other h = h
fails_is (fault.Order k) r other h = h
fails_is (fault.Gap k) r other h = h
fails_is (fault.CrossOnOdd k) r other h = h
fails_is (fault.Dot k) r other h = h
fails_is (fault.EmptyBlock k) r other h = h
fails_is (fault.SecondComma k) r other h = h
fails_is (fault.Long k) r other h = h

pub stops : (n m : ℕ) (s : State) (i : ℕ) (bytes : List ℕ) (f : NotationFault) (total : Result (List Places) NotationFault) → i < length bytes
    → Fails f (byte_step n s i (get_or bytes i 0)) → limited m (read_from n s i (drop i bytes)) ≡ total → Fails f total
stops n m s i bytes f total low fails so_far =
    fails_by f (byte_step n s i (get_or bytes i 0)) total (λ g e.
    sym so_far ∙ ap (limited m) (byte_first n s i bytes low ∙ ap (λ r. then_all r (λ t. read_from n t (i + 1) (drop (i + 1) bytes))) e)) fails

-- the end
pub at_end : (n m : ℕ) (s : State) (i : ℕ) (bytes : List ℕ) (total : Result (List Places) NotationFault) → i ≡ length bytes
    → limited m (read_from n s i (drop i bytes)) ≡ total → limited m (end_step n s (length bytes)) ≡ total
unfolding read_from
at_end n m s i bytes total whole so_far =
    sym (ap (limited m) (ap (read_from n s i) (drop_all i bytes (omega arith)) ∙ ap (end_step n s) whole)) ∙ so_far

-- what reading gives is what the text spells, or its first fault
pub spelled : {X : Type 0} (view : X → List Places) (n : ℕ) (text : List ℕ) (r : Result X NotationFault) → Gives view r (read_all n text) → IfOk r (λ x. Spells n text (view x))
spelled view n text (Ok x) e = subst (IsAnswer n text) e (read_answers n text)
spelled view n text (Err f) e = tt

pub refused : {X : Type 0} (view : X → List Places) (n : ℕ) (text : List ℕ) (r : Result X NotationFault) → Gives view r (read_all n text) → IfErr r (λ f. f ≢ fault.NoMemory → FirstFault n text f)
refused view n text (Ok x) e = tt
refused view n text (Err f) e = λ other. subst (IsAnswer n text) (fails_is f (read_all n text) other e) (read_answers n text)
