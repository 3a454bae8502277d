-- Which notations spell changes.
use Rattle.std.proofs.Common.{◌≡◌, ℕ, ◌+◌, ◌<◌, ◌⊎◌, zero, suc, List, [], ◌∷◌, ◌++◌, length, get_or, map, take, inl, inr, sym, ap, ◌∙◌, arith, subst}
use Rattle.std.specs.List.{AllZip}
use Rattle.std.proofs.lemmas.List.{get_or-map, length-map, get_or-take, length-take-le, take_more}
use Rattle.std.proofs.lemmas.Slice.Zip.{all_zipped_more}
use Rattle.cr_row.specs.Rows.{Places}
use Rattle.cr_model.specs.declared.notation.NotationFault.{NotationFault}
use Rattle.cr_model.specs.declared.file_fault.Whose.TheVariants as whose
use Rattle.cr_model.specs.declared.file_fault.ProblemFault.{ProblemFault}
use Rattle.cr_model.specs.declared.file_fault.ProblemFault.TheVariants as fault
use Rattle.cr_model.specs.Notation.{Spells}
use Rattle.cr_model.specs.NotationFaults.{FirstFault}
use Rattle.cr_model.specs.Files.{FileParts, MethodText, CallText}
use Rattle.cr_model.specs.ProblemFiles.{method_texts, call_texts, LettersPass, MethodsSpell, IsSpelled, IsFirstUnspelled}
use Rattle.cr_read.specs.Reading.{Refused}

-- a text of the list, by its method or call
pub method_text_is : (methods : List MethodText) (i : ℕ) (method : MethodText) → i < length methods → method ≡ get_or methods i method → method.notation ≡ get_or (map (λ m. m.notation) methods) i []
method_text_is methods i method h e = ap (λ m. m.notation) e ∙ sym (get_or-map (λ m. m.notation) methods i method [] h)

pub call_text_is : (calls : List CallText) (i : ℕ) (call : CallText) → i < length calls → call ≡ get_or calls i call → call.notation ≡ get_or (map (λ c. c.notation) calls) i []
call_text_is calls i call h e = ap (λ c. c.notation) e ∙ sym (get_or-map (λ c. c.notation) calls i call [] h)

-- one more text that spells changes
pub one_more : (n : ℕ) (texts : List (List ℕ)) (i : ℕ) (spellings : List (List Places)) (text : List ℕ) (spelling : List Places)
    → i < length texts → AllZip (Spells n) (take i texts) spellings → text ≡ get_or texts i [] → Spells n text spelling → AllZip (Spells n) (take (i + 1) texts) (spellings ++ spelling ∷ [])
one_more n texts i spellings text spelling h all is spells =
    subst (λ (front : List (List ℕ)). AllZip (Spells n) front (spellings ++ spelling ∷ [])) (sym (take_more texts i [] h))
    (all_zipped_more (Spells n) (take i texts) spellings (get_or texts i []) spelling all (subst (λ (t : List ℕ). Spells n t spelling) is spells))

spelled_at : (n : ℕ) (texts : List (List ℕ)) (spellings : List (List Places)) → AllZip (Spells n) texts spellings → (j : ℕ) → j < length texts → IsSpelled n (get_or texts j [])
spelled_at n [] [] all j h = absurd (omega arith)
spelled_at n [] (spelling ∷ spellings) all j h = absurd all
spelled_at n (text ∷ texts) [] all j h = absurd all
spelled_at n (text ∷ texts) (spelling ∷ spellings) all zero h = (spelling, all.0)
spelled_at n (text ∷ texts) (spelling ∷ spellings) all (suc j) h = spelled_at n texts spellings all.1 j (omega arith)

-- the texts so far spell changes, and the next one has a fault
first_unspelled : (n : ℕ) (texts : List (List ℕ)) (i : ℕ) (spellings : List (List Places)) (text : List ℕ) (why : NotationFault)
    → i < length texts → AllZip (Spells n) (take i texts) spellings → text ≡ get_or texts i [] → FirstFault n text why → IsFirstUnspelled n texts i why
first_unspelled n texts i spellings text why h all is wrong = record {
  within = h;
  before = λ j low.
      let long : length (take i texts) ≡ i = length-take-le i texts (omega arith) in
      subst (λ (t : List ℕ). IsSpelled n t) (get_or-take i texts j [] low) (spelled_at n (take i texts) spellings all j (omega arith));
  wrong = subst (λ (t : List ℕ). FirstFault n t why) is wrong;
}

pub method_refused : (file : FileParts) (n i : ℕ) (spellings : List (List Places)) (text : List ℕ) (why : ProblemFault) → LettersPass file n
    → i < length file.methods → AllZip (Spells n) (take i (method_texts file)) spellings → text ≡ get_or (method_texts file) i []
    → ((why ≡ fault.NoMemory) ⊎ ((first : NotationFault) × (why ≡ fault.Notation (whose.Method i) first) × FirstFault n text first)) → Refused file why
method_refused file n i spellings text why pass h all is (inl none) = rw none tt
method_refused file n i spellings text why pass h all is (inr some) =
    let within : i < length (method_texts file) = rw (length-map file.methods (λ m. m.notation)) h in
    subst (Refused file) (sym some.1) (n, pass, first_unspelled n (method_texts file) i spellings text some.0 within all is some.2)

pub call_refused : (file : FileParts) (n i : ℕ) (methods spellings : List (List Places)) (text : List ℕ) (why : ProblemFault) → MethodsSpell file n methods
    → i < length file.calls → AllZip (Spells n) (take i (call_texts file)) spellings → text ≡ get_or (call_texts file) i []
    → ((why ≡ fault.NoMemory) ⊎ ((first : NotationFault) × (why ≡ fault.Notation (whose.Call i) first) × FirstFault n text first)) → Refused file why
call_refused file n i methods spellings text why pass h all is (inl none) = rw none tt
call_refused file n i methods spellings text why pass h all is (inr some) =
    let within : i < length (call_texts file) = rw (length-map file.calls (λ c. c.notation)) h in
    subst (Refused file) (sym some.1) (n, methods, pass, first_unspelled n (call_texts file) i spellings text some.0 within all is some.2)
