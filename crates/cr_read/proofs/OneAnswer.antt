-- Bytes have one answer at most: a problem, or a first fault.
use Rattle.std.proofs.Common.{◌≡◌, ℕ, zero, suc, ◌/◌, ◌<◌, ◌≤◌, ◌⊎◌, ℤ, pos, true, Result, Ok, Err, List, [], ◌∷◌, length, get_or, refl, sym, ap, ap₂, subst, ◌∙◌, inl, inr, arith}
use Rattle.std.specs.Prelude.{◌≤ℤ◌}
use Rattle.std.specs.List.{AllZip}
use Rattle.std.proofs.lemmas.Option.{same_Some}
use Rattle.std.proofs.lemmas.Bool.{cases_lt}
use Rattle.std.proofs.lemmas.Int.{ints}
use Rattle.toml.specs.Data.{Members}
use Rattle.cr_row.specs.Rows.{Places}
use Rattle.cr_model.specs.declared.fault.PartFault.{PartFault}
use Rattle.cr_model.specs.declared.fault.PartFault.TheVariants as part
use Rattle.cr_model.specs.declared.notation.NotationFault.{NotationFault}
use Rattle.cr_model.specs.declared.file_fault.Whose.TheVariants as whose
use Rattle.cr_model.specs.declared.file_fault.ProblemFault.{ProblemFault}
use Rattle.cr_model.specs.declared.file_fault.ProblemFault.TheVariants as fault
use Rattle.cr_model.specs.Problems.{ProblemParts}
use Rattle.cr_model.specs.Checks.{IsFirstWrong}
use Rattle.cr_model.specs.Right.{LetterIsRight}
use Rattle.cr_model.specs.Sound.{IsSound}
use Rattle.cr_model.specs.Faults.{IsPartFault}
use Rattle.cr_model.proofs.FirstFailure.{one_first}
use Rattle.cr_model.proofs.OneFault.{sound_has_no_fault, one_part_fault}
use Rattle.cr_model.specs.Notation.{Spells}
use Rattle.cr_model.specs.NotationFaults.{FirstFault}
use Rattle.cr_model.specs.Keys.{key_faults}
use Rattle.cr_model.specs.Files.{FileParts, file_of, Reads, IsFile}
use Rattle.cr_model.specs.ProblemFiles.{Spellings, letters_of, method_texts, call_texts, mark_at, is_for, OverIsRight, MarkIsRight, Fits, FitsAll, AreApart, parts_of, StagePasses, LettersPass, MethodsSpell, CallsSpell, OversPass, MarksPass, LengthsPass, Makes, ProblemFile, IsFirstUnspelled, IsFileFault, FirstProblemFault}
use Rattle.cr_read.specs.Reading.{file_fault}

-- an answer: a problem, or a fault
abbrev pub Verdict : Type 0
Verdict = Result ProblemParts ProblemFault

abbrev pub IsOne : (Verdict → Type 0) → Type 0
IsOne C = (r s : Verdict) → C r → C s → r ≡ s

-- a check fails and gives its answer, or it passes and the next checks give theirs
abbrev Level : {W : Type 0} → (Verdict → Type 0) → (W → Type 0) → (W → Verdict → Type 0) → Verdict → Type 0
Level {W} Fails Passes Next r = Fails r ⊎ ((w : W) × Passes w × Next w r)

level_one : {W : Type 0} (Fails : Verdict → Type 0) (Passes : W → Type 0) (Next : W → Verdict → Type 0) → IsOne Fails → ((r : Verdict) (w : W) → Fails r → Passes w → ⊥)
    → ((w v : W) → Passes w → Passes v → w ≡ v) → ((w : W) → Passes w → IsOne (Next w)) → IsOne (Level Fails Passes Next)
level_one Fails Passes Next one apart same next r s (inl a) (inl b) = one r s a b
level_one Fails Passes Next one apart same next r s (inl a) (inr b) = absurd (apart r b.0 a b.1)
level_one Fails Passes Next one apart same next r s (inr a) (inl b) = absurd (apart s a.0 b a.1)
level_one Fails Passes Next one apart same next r s (inr a) (inr b) = next a.0 a.1 r s a.2 (subst (λ w. Next w s) (same b.0 a.0 b.1 a.1) b.2)

-- the same where passing has no witness
abbrev Check : (Verdict → Type 0) → Type 0 → (Verdict → Type 0) → Verdict → Type 0
Check Fails Passes Next r = Fails r ⊎ (Passes × Next r)

check_one : (Fails : Verdict → Type 0) (Passes : Type 0) (Next : Verdict → Type 0) → IsOne Fails → ((r : Verdict) → Fails r → Passes → ⊥) → (Passes → IsOne Next) → IsOne (Check Fails Passes Next)
check_one Fails Passes Next one apart next r s (inl a) (inl b) = one r s a b
check_one Fails Passes Next one apart next r s (inl a) (inr b) = absurd (apart r a b.0)
check_one Fails Passes Next one apart next r s (inr a) (inl b) = absurd (apart s b a.0)
check_one Fails Passes Next one apart next r s (inr a) (inr b) = next a.0 r s a.1 b.1

-- ---- the first that is wrong

none_wrong : (P : ℕ → Type 0) (n i : ℕ) → IsFirstWrong P n i → ((k : ℕ) → k < n → P k) → ⊥
none_wrong P n i a all = a.wrong (all i a.within)

-- a check whose fault has the index of the first that is wrong
abbrev FirstGives : (ℕ → ProblemFault) → (ℕ → Type 0) → ℕ → Verdict → Type 0
FirstGives name P n r = (i : ℕ) × (r ≡ Err (name i)) × IsFirstWrong P n i

first_gives_one : (name : ℕ → ProblemFault) (P : ℕ → Type 0) (n : ℕ) → IsOne (FirstGives name P n)
first_gives_one name P n r s a b = a.1 ∙ ap (λ i. Err (name i)) (one_first P n a.0 b.0 a.2 b.2) ∙ sym b.1

each_check : (name : ℕ → ProblemFault) (P : ℕ → Type 0) (n : ℕ) (Next : Verdict → Type 0) → (((i : ℕ) → i < n → P i) → IsOne Next) → IsOne (Check (FirstGives name P n) ((i : ℕ) → i < n → P i) Next)
each_check name P n Next next = check_one (FirstGives name P n) ((i : ℕ) → i < n → P i) Next (first_gives_one name P n) (λ r a all. none_wrong P n a.0 a.2 all) next

-- a check of one thing, whose fault tells it
abbrev Tells : ProblemFault → Type 0 → Verdict → Type 0
Tells why P r = (r ≡ Err why) × (P → ⊥)

one_check : (why : ProblemFault) (P : Type 0) (Next : Verdict → Type 0) → (P → IsOne Next) → IsOne (Check (Tells why P) P Next)
one_check why P Next next = check_one (Tells why P) P Next (λ r s a b. a.0 ∙ sym b.0) (λ r a holds. a.1 holds) next

-- ---- the parts of a problem

-- they are sound, or have a fault
abbrev PartAnswer : ProblemParts → Verdict → Type 0
PartAnswer p r = ((r ≡ Ok p) × IsSound p) ⊎ ((why : PartFault) × (r ≡ Err (file_fault why)) × IsPartFault p why)

part_one : (p : ProblemParts) → IsOne (PartAnswer p)
part_one p r s (inl a) (inl b) = a.0 ∙ sym b.0
part_one p r s (inl a) (inr b) = absurd (sound_has_no_fault p b.0 a.1 b.2)
part_one p r s (inr a) (inl b) = absurd (sound_has_no_fault p a.0 b.1 a.2)
part_one p r s (inr a) (inr b) = a.1 ∙ ap (λ why. Err (file_fault why)) (one_part_fault p a.0 b.0 a.2 b.2) ∙ sym b.1

-- ---- the checks of a file's values

abbrev pub OneList : Type 0
OneList = (n : ℕ) (text : List ℕ) (one other : List Places) → Spells n text one → Spells n text other → one ≡ other

abbrev pub OneFault : Type 0
OneFault = (n : ℕ) (text : List ℕ) (one other : NotationFault) → FirstFault n text one → FirstFault n text other → one ≡ other

abbrev pub NeverBoth : Type 0
NeverBoth = (n : ℕ) (text : List ℕ) (changes : List Places) (why : NotationFault) → Spells n text changes → FirstFault n text why → ⊥

module _ (one_list : OneList) (one_fault : OneFault) (never_both : NeverBoth) where
  same_spellings : (n : ℕ) (texts : List (List ℕ)) (xs ys : List (List Places)) → AllZip (Spells n) texts xs → AllZip (Spells n) texts ys → xs ≡ ys
  same_spellings n [] [] [] a b = refl
  same_spellings n [] [] (y ∷ ys) a b = absurd b
  same_spellings n [] (x ∷ xs) ys a b = absurd a
  same_spellings n (text ∷ texts) [] ys a b = absurd a
  same_spellings n (text ∷ texts) (x ∷ xs) [] a b = absurd b
  same_spellings n (text ∷ texts) (x ∷ xs) (y ∷ ys) a b = ap₂ ◌∷◌ (one_list n text x y a.0 b.0) (same_spellings n texts xs ys a.1 b.1)

  spelled_at : (n : ℕ) (texts : List (List ℕ)) (spellings : List (List Places)) → AllZip (Spells n) texts spellings → (i : ℕ) → i < length texts → Spells n (get_or texts i []) (get_or spellings i [])
  spelled_at n [] [] all i h = absurd (omega arith)
  spelled_at n [] (spelling ∷ spellings) all i h = absurd all
  spelled_at n (text ∷ texts) [] all i h = absurd all
  spelled_at n (text ∷ texts) (spelling ∷ spellings) all zero h = all.0
  spelled_at n (text ∷ texts) (spelling ∷ spellings) all (suc i) h = spelled_at n texts spellings all.1 i (omega arith)

  -- the first text that spells nothing
  not_before : (n : ℕ) (texts : List (List ℕ)) (i j : ℕ) (why other : NotationFault) → IsFirstUnspelled n texts i why → IsFirstUnspelled n texts j other → i < j → ⊥
  not_before n texts i j why other a b less = let s = b.before i less in never_both n (get_or texts i []) s.0 why s.1 a.wrong

  same_index : (n : ℕ) (texts : List (List ℕ)) (i j : ℕ) (why other : NotationFault) → IsFirstUnspelled n texts i why → IsFirstUnspelled n texts j other → i ≡ j
  same_index n texts i j why other a b = elim (cases_lt i j) [
    | inl less ↦ absurd (not_before n texts i j why other a b less)
    | inr more ↦ elim (cases_lt j i) [ inl less ↦ absurd (not_before n texts j i other why b a less) | inr same ↦ omega arith ]
  ]

  abbrev Unspelled : (ℕ → NotationFault → ProblemFault) → ℕ → List (List ℕ) → Verdict → Type 0
  Unspelled name n texts r = (i : ℕ) × (why : NotationFault) × (r ≡ Err (name i why)) × IsFirstUnspelled n texts i why

  unspelled_one : (name : ℕ → NotationFault → ProblemFault) (n : ℕ) (texts : List (List ℕ)) → IsOne (Unspelled name n texts)
  unspelled_one name n texts r s a b =
      let at : a.0 ≡ b.0 = same_index n texts a.0 b.0 a.1 b.1 a.3 b.3 in
      let there : FirstFault n (get_or texts a.0 []) b.1 = subst (λ (j : ℕ). FirstFault n (get_or texts j []) b.1) (sym at) b.3.wrong in
      let same : a.1 ≡ b.1 = one_fault n (get_or texts a.0 []) a.1 b.1 a.3.wrong there in
      a.2 ∙ ap₂ (λ i why. Err (name i why)) at same ∙ sym b.2

  spelling_check : (name : ℕ → NotationFault → ProblemFault) (n : ℕ) (texts : List (List ℕ)) (Next : List (List Places) → Verdict → Type 0) → ((spellings : List (List Places)) → AllZip (Spells n) texts spellings → IsOne (Next spellings))
      → IsOne (Level (Unspelled name n texts) (AllZip (Spells n) texts) Next)
  spelling_check name n texts Next next = level_one (Unspelled name n texts) (AllZip (Spells n) texts) Next (unspelled_one name n texts)
      (λ r spellings a all. never_both n (get_or texts a.0 []) (get_or spellings a.0 []) a.1 (spelled_at n texts spellings all a.0 a.3.within) a.3.wrong)
      (λ xs ys a b. same_spellings n texts xs ys a b) next

  module _ (file : FileParts) where
    abbrev ClashFails : Verdict → Type 0
    ClashFails r = (first second : ℕ) × (r ≡ Err (fault.Clash first second)) × IsFirstWrong (λ j. (i : ℕ) → i < j → AreApart file i j) (length file.calls) second × IsFirstWrong (λ i. AreApart file i second) second first

    abbrev Apart : Type 0
    Apart = (second : ℕ) → second < length file.calls → (first : ℕ) → first < second → AreApart file first second

    clash_one : IsOne ClashFails
    clash_one r s a b =
        let later : a.1 ≡ b.1 = one_first (λ j. (i : ℕ) → i < j → AreApart file i j) (length file.calls) a.1 b.1 a.3 b.3 in
        let there : IsFirstWrong (λ i. AreApart file i a.1) a.1 b.0 = subst (λ (k : ℕ). IsFirstWrong (λ i. AreApart file i k) k b.0) (sym later) b.4 in
        a.2 ∙ ap₂ (λ x y. Err (fault.Clash x y)) (one_first (λ i. AreApart file i a.1) a.1 a.0 b.0 a.4 there) later ∙ sym b.2

    abbrev ClashAnswer : ℕ → Spellings → Verdict → Type 0
    ClashAnswer n spellings = Check ClashFails Apart (PartAnswer (parts_of n file spellings))

    abbrev LengthFails : Spellings → Verdict → Type 0
    LengthFails spellings r = (call method : ℕ) × (r ≡ Err (fault.CallLength call method)) × IsFirstWrong (FitsAll file spellings) (length file.calls) call × IsFirstWrong (λ m. is_for file call m ≡ true → Fits file spellings call m) (length file.methods) method

    length_one : (spellings : Spellings) → IsOne (LengthFails spellings)
    length_one spellings r s a b =
        let calls : a.0 ≡ b.0 = one_first (FitsAll file spellings) (length file.calls) a.0 b.0 a.3 b.3 in
        let there : IsFirstWrong (λ m. is_for file a.0 m ≡ true → Fits file spellings a.0 m) (length file.methods) b.1 = subst (λ (k : ℕ). IsFirstWrong (λ m. is_for file k m ≡ true → Fits file spellings k m) (length file.methods) b.1) (sym calls) b.4 in
        a.2 ∙ ap₂ (λ x y. Err (fault.CallLength x y)) calls (one_first (λ m. is_for file a.0 m ≡ true → Fits file spellings a.0 m) (length file.methods) a.1 b.1 a.4 there) ∙ sym b.2

    abbrev LengthAnswer : ℕ → Spellings → Verdict → Type 0
    LengthAnswer n spellings = Check (LengthFails spellings) ((call : ℕ) → call < length file.calls → FitsAll file spellings call) (ClashAnswer n spellings)

    abbrev MarkAnswer : ℕ → Spellings → Verdict → Type 0
    MarkAnswer n spellings = Check (FirstGives fault.Mark (λ i. MarkIsRight (mark_at file i)) (length file.calls)) ((i : ℕ) → i < length file.calls → MarkIsRight (mark_at file i)) (LengthAnswer n spellings)

    abbrev OverAnswer : ℕ → Spellings → Verdict → Type 0
    OverAnswer n spellings = Check (FirstGives fault.Over (OverIsRight file) (length file.calls)) ((i : ℕ) → i < length file.calls → OverIsRight file i) (MarkAnswer n spellings)

    abbrev CallNotations : ℕ → List (List Places) → Verdict → Type 0
    CallNotations n methods = Level (Unspelled (λ i why. fault.Notation (whose.Call i) why) n (call_texts file)) (AllZip (Spells n) (call_texts file)) (λ calls. OverAnswer n (record { methods = methods; calls = calls }))

    abbrev MethodNotations : ℕ → Verdict → Type 0
    MethodNotations n = Level (Unspelled (λ i why. fault.Notation (whose.Method i) why) n (method_texts file)) (AllZip (Spells n) (method_texts file)) (CallNotations n)

    abbrev LetterAnswer : ℕ → Verdict → Type 0
    LetterAnswer n = Check (FirstGives fault.Letter (LetterIsRight (letters_of file)) (length file.methods)) ((i : ℕ) → i < length file.methods → LetterIsRight (letters_of file) i) (MethodNotations n)

    abbrev StageFails : Verdict → Type 0
    StageFails r = (r ≡ Err (fault.Stage file.stage)) × (((pos 3 ≤ℤ file.stage) × (file.stage ≤ℤ pos 16)) → ⊥)

    abbrev FileAnswer : Verdict → Type 0
    FileAnswer = Level StageFails (StagePasses file) LetterAnswer

    same_stage : (n m : ℕ) → StagePasses file n → StagePasses file m → n ≡ m
    same_stage n m a b = let e : pos n ≡ pos m = sym a.is ∙ b.is in cc

    stage_apart : (r : Verdict) (n : ℕ) → StageFails r → StagePasses file n → ⊥
    stage_apart r n a b =
        let from : 3 ≤ n = b.from in
        let to : n ≤ 16 = b.to in
        let low : pos 3 ≤ℤ pos n = omega (arith, ints) in
        let high : pos n ≤ℤ pos 16 = omega (arith, ints) in
        a.1 (rw b.is (low, high))

    file_one : IsOne FileAnswer
    file_one =
        level_one StageFails (StagePasses file) LetterAnswer (λ r s a b. a.0 ∙ sym b.0) stage_apart same_stage (λ n _.
        each_check fault.Letter (LetterIsRight (letters_of file)) (length file.methods) (MethodNotations n) (λ _.
        spelling_check (λ i why. fault.Notation (whose.Method i) why) n (method_texts file) (CallNotations n) (λ methods _.
        spelling_check (λ i why. fault.Notation (whose.Call i) why) n (call_texts file) (λ calls. OverAnswer n (record { methods = methods; calls = calls })) (λ calls _.
        each_check fault.Over (OverIsRight file) (length file.calls) (MarkAnswer n (record { methods = methods; calls = calls })) (λ _.
        each_check fault.Mark (λ i. MarkIsRight (mark_at file i)) (length file.calls) (LengthAnswer n (record { methods = methods; calls = calls })) (λ _.
        check_one (LengthFails (record { methods = methods; calls = calls })) ((call : ℕ) → call < length file.calls → FitsAll file (record { methods = methods; calls = calls }) call) (ClashAnswer n (record { methods = methods; calls = calls }))
        (length_one (record { methods = methods; calls = calls })) (λ r a all. none_wrong (FitsAll file (record { methods = methods; calls = calls })) (length file.calls) a.0 a.3 all) (λ _.
        check_one ClashFails Apart (PartAnswer (parts_of n file (record { methods = methods; calls = calls }))) clash_one (λ r a all. none_wrong (λ j. (i : ℕ) → i < j → AreApart file i j) (length file.calls) a.1 a.3 all) (λ _.
        part_one (parts_of n file (record { methods = methods; calls = calls }))))))))))

    from_stage : (r : Verdict) (n : ℕ) → StagePasses file n → LetterAnswer n r → FileAnswer r
    from_stage r n pass later = inr (n, pass, later)

    from_letters : (r : Verdict) (n : ℕ) → LettersPass file n → MethodNotations n r → FileAnswer r
    from_letters r n pass later = from_stage r n pass.before (inr (pass.letters, later))

    from_methods : (r : Verdict) (n : ℕ) (methods : List (List Places)) → MethodsSpell file n methods → CallNotations n methods r → FileAnswer r
    from_methods r n methods pass later = from_letters r n pass.before (inr (methods, pass.methods_spell, later))

    from_calls : (r : Verdict) (n : ℕ) (spellings : Spellings) → CallsSpell file n spellings → OverAnswer n spellings r → FileAnswer r
    from_calls r n spellings pass later = from_methods r n spellings.methods pass.before (inr (spellings.calls, pass.calls_spell, later))

    from_overs : (r : Verdict) (n : ℕ) (spellings : Spellings) → OversPass file n spellings → MarkAnswer n spellings r → FileAnswer r
    from_overs r n spellings pass later = from_calls r n spellings pass.before (inr (pass.overs, later))

    from_marks : (r : Verdict) (n : ℕ) (spellings : Spellings) → MarksPass file n spellings → LengthAnswer n spellings r → FileAnswer r
    from_marks r n spellings pass later = from_overs r n spellings pass.before (inr (pass.marks, later))

    from_lengths : (r : Verdict) (n : ℕ) (spellings : Spellings) → LengthsPass file n spellings → ClashAnswer n spellings r → FileAnswer r
    from_lengths r n spellings pass later = from_marks r n spellings pass.before (inr (pass.fits, later))

    from_made : (r : Verdict) (p : ProblemParts) → Makes file p → PartAnswer p r → FileAnswer r
    from_made r p makes later = from_lengths r makes.n makes.spellings makes.passes.before (inr (makes.passes.apart, subst (λ (q : ProblemParts). PartAnswer q r) makes.is later))

    -- a fault of the values is an answer of the checks
    fault_answers : (why : ProblemFault) → IsFileFault file why → FileAnswer (Err why)
    fault_answers (fault.Stage stage) is = inl (ap (λ z. Err (fault.Stage z)) is.0, λ right. is.1 (rw is.0 right))
    fault_answers (fault.Letter i) is = from_stage _ is.0 is.1 (inl (i, refl, is.2))
    fault_answers (fault.Notation (whose.Method i) why) is = from_letters _ is.0 is.1 (inl (i, why, refl, is.2))
    fault_answers (fault.Notation (whose.Call i) why) is = from_methods _ is.0 is.1 is.2 (inl (i, why, refl, is.3))
    fault_answers (fault.Over i) is = from_calls _ is.0 is.1 is.2 (inl (i, refl, is.3))
    fault_answers (fault.Mark i) is = from_overs _ is.0 is.1 is.2 (inl (i, refl, is.3))
    fault_answers (fault.CallLength call method) is = from_marks _ is.0 is.1 is.2 (inl (call, method, refl, is.3, is.4))
    fault_answers (fault.Clash first second) is = from_lengths _ is.0 is.1 is.2 (inl (first, second, refl, is.3, is.4))
    fault_answers (fault.Steps number) is = from_made _ is.0 is.1 (inr ((part.Steps number), refl, is.2))
    fault_answers (fault.Range low high) is = from_made _ is.0 is.1 (inr ((part.Range low high), refl, is.2))
    fault_answers (fault.Deep depth) is = from_made _ is.0 is.1 (inr ((part.Deep depth), refl, is.2))
    fault_answers (fault.Parts parts) is = from_made _ is.0 is.1 (inr ((part.Parts parts), refl, is.2))
    fault_answers (fault.Count at) is = from_made _ is.0 is.1 (inr (part.Count at, refl, is.2))
    fault_answers (fault.Pattern i) is = from_made _ is.0 is.1 (inr ((part.Pattern i), refl, is.2))
    fault_answers fault.Com is = from_made _ is.0 is.1 (inr (part.Com, refl, is.2))
    fault_answers _ is = absurd is

  -- ---- the bytes

  abbrev pub Answers : List ℕ → Verdict → Type 0
  Answers bytes (Ok p) = ProblemFile bytes p
  Answers bytes (Err why) = FirstProblemFault bytes why

  abbrev KeyFails : Members → Verdict → Type 0
  KeyFails top r = (path : List ℕ) × (rest : List (List ℕ)) × (r ≡ Err (fault.Key path)) × (key_faults top ≡ path ∷ rest)

  abbrev KeyAnswer : Members → Verdict → Type 0
  KeyAnswer top = Check (KeyFails top) (key_faults top ≡ []) (FileAnswer (file_of top))

  abbrev TableFails : List ℕ → Verdict → Type 0
  TableFails bytes r = (r ≡ Err fault.NotToml) × ((table : Members) → Reads bytes table → ⊥)

  abbrev BytesAnswer : List ℕ → Verdict → Type 0
  BytesAnswer bytes = Level (TableFails bytes) (Reads bytes) KeyAnswer

  key_one : (top : Members) → IsOne (KeyFails top)
  key_one top r s a b =
      let e : a.0 ∷ a.1 ≡ b.0 ∷ b.1 = sym a.3 ∙ b.3 in
      let same : a.0 ≡ b.0 = cc in
      a.2 ∙ ap (λ path. Err (fault.Key path)) same ∙ sym b.2

  key_apart : (top : Members) (r : Verdict) → KeyFails top r → key_faults top ≡ [] → ⊥
  key_apart top r a none = let e : a.0 ∷ a.1 ≡ [] = sym a.3 ∙ none in absurd (cc)

  same_table : (bytes : List ℕ) (t u : Members) → Reads bytes t → Reads bytes u → t ≡ u
  same_table bytes t u a b = same_Some t u (sym a.is ∙ b.is)

  bytes_one : (bytes : List ℕ) → IsOne (BytesAnswer bytes)
  bytes_one bytes =
      level_one (TableFails bytes) (Reads bytes) KeyAnswer (λ r s a b. a.0 ∙ sym b.0) (λ r table a reads. a.1 table reads) (same_table bytes) (λ top _.
      check_one (KeyFails top) (key_faults top ≡ []) (FileAnswer (file_of top)) (key_one top) (key_apart top) (λ _. file_one (file_of top)))

  file_answers : (bytes : List ℕ) (file : FileParts) (r : Verdict) → IsFile bytes file → FileAnswer file r → BytesAnswer bytes r
  file_answers bytes file r is answer = inr (is.table, is.reads, inr (is.keys, subst (λ (f : FileParts). FileAnswer f r) is.is answer))

  bytes_answer : (bytes : List ℕ) (r : Verdict) → Answers bytes r → BytesAnswer bytes r
  bytes_answer bytes (Ok p) is = file_answers bytes is.file (Ok p) is.is_file (from_made is.file (Ok p) p is.makes (inl (refl, is.sound)))
  bytes_answer bytes (Err fault.NotToml) is = inl (refl, is)
  bytes_answer bytes (Err (fault.Key path)) is = inr (is.0, is.2, inl (path, is.1, refl, is.3))
  bytes_answer bytes (Err why) is = file_answers bytes is.0 (Err why) is.1 (fault_answers is.0 why is.2)

  pub one_answer : (bytes : List ℕ) (r s : Verdict) → Answers bytes r → Answers bytes s → r ≡ s
  one_answer bytes r s a b = bytes_one bytes r s (bytes_answer bytes r a) (bytes_answer bytes s b)
