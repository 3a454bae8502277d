-- The leads of a file, all of whose calls are right, are those of a problem.
use Rattle.std.proofs.Common.{◌≡◌, ℕ, zero, suc, ◌+◌, ◌-◌, ◌<◌, ◌≤◌, Bool, true, ◌&&◌, Option, Some, None, List, [], ◌∷◌, ◌++◌, length, get_or, refl, sym, ap, subst, ◌∙◌, inl, inr, arith}
use Rattle.std.specs.Prelude.{flat_map, All, nat_eq}
use Rattle.std.specs.List.{range_with_len, find, AllZip}
use Rattle.std.proofs.lemmas.Bool.{cases_Bool, and_parts, cases_lt}
use Rattle.std.proofs.lemmas.Bool.Decides.{nat_tests}
use Rattle.std.proofs.lemmas.Option.{same_Some}
use Rattle.std.proofs.lemmas.List.{length-map, get_or-map}
use Rattle.std.proofs.lemmas.List.Elements.{All-append, All-take, All-cons, All-get_or}
use Rattle.std.proofs.lemmas.Slice.Zip.{AllZip-long}
use Rattle.cr_row.specs.Rows.{Places, IsChange}
use Rattle.cr_model.specs.declared.lead.Step.{Step}
use Rattle.cr_model.specs.declared.fault.PartFault.{PartFault}
use Rattle.cr_model.specs.declared.fault.PartFault.TheVariants as part
use Rattle.cr_model.specs.declared.file_fault.ProblemFault.{ProblemFault}
use Rattle.cr_model.specs.declared.file_fault.ProblemFault.TheVariants as fault
use Rattle.cr_model.specs.Problems.{LeadParts, ProblemParts}
use Rattle.cr_model.specs.Checks.{IsFirstFailure}
use Rattle.cr_model.specs.Faults.{checks, IsPartFault}
use Rattle.cr_model.specs.Callings.{step_at, changes_at}
use Rattle.cr_model.proofs.OneFault.{exact_letters, exact_leads}
use Rattle.cr_model.specs.Notation.{Spells}
use Rattle.cr_model.specs.Right.{plain, AreOfStage, LettersAreRight, LeadIsRight, LeadsAreRight, StepIsRight, IsNextStep}
use Rattle.cr_model.specs.Files.{FileParts}
use Rattle.cr_model.specs.ProblemFiles.{Spellings, letters_of, method_texts, call_texts, mark_at, is_for, spelling_at, over_at, called_spelling, call_with, lead_from, byte_of, called_lead, leads_of_method, leads_of, LettersPass, CallsSpell, CallsPass, Makes, IsFileFault}
use Rattle.cr_read.specs.Reading.{HasSpellings, Refused, IsLater, file_fault}
use Rattle.cr_read.proofs.CallFacts.{called_length}
use Rattle.cr_notation.proofs.Spelled.{spelled_changes}
use Rattle.cr_read.proofs.StepOrder.{Chained, GoOn, last_step, chained_append, chained_at, each_of, IsMarked, marked_each, marks_in_order, methods_in_order, methods_led}

-- a change of the stage
abbrev IsOf : ℕ → Places → Type 0
IsOf n change = (change.stage ≡ n) × IsChange change

-- what is right of a lead by itself
pub record IsGood (n methods : ℕ) (lead : LeadParts) : Type 0 where
  pub changes : AreOfStage n lead.changes
  pub from : 97 ≤ lead.step.mark
  pub to : lead.step.mark ≤ 122
  pub known : lead.step.method < methods

spelling_spelled : (n : ℕ) (texts : List (List ℕ)) (spellings : List (List Places)) → AllZip (Spells n) texts spellings → (i : ℕ) → i < length texts → Spells n (get_or texts i []) (get_or spellings i [])
spelling_spelled n [] [] all i h = absurd (omega arith)
spelling_spelled n [] (spelling ∷ spellings) all i h = absurd all
spelling_spelled n (text ∷ texts) [] all i h = absurd all
spelling_spelled n (text ∷ texts) (spelling ∷ spellings) all zero h = all.0
spelling_spelled n (text ∷ texts) (spelling ∷ spellings) all (suc i) h = spelling_spelled n texts spellings all.1 i (omega arith)

-- what is found passes the test, and is in the range
pub found_at : (test : ℕ → Bool) (a n x : ℕ) → find test (range_with_len a n) ≡ Some x → (x < a + n) × (test x ≡ true)
found_at test a zero x is = absurd (cc)
found_at test a (suc n) x is = elim (cases_Bool (test a)) [
  | inl holds ↦
      let here : a ≡ x = same_Some a x (rw holds at is) in
      (omega arith, ap test (sym here) ∙ holds)
  | inr fails ↦
      let later = found_at test (a + 1) n x (rw fails at is) in
      ((let low : x < a + 1 + n = later.0 in omega arith), later.1)
]

pub same_mark : (a b : ℕ) → nat_eq a b ≡ true → a ≡ b
same_mark a b is = grind (arith, nat_tests)

module _ (file : FileParts) (n : ℕ) (spellings : Spellings) (pass : CallsPass file n spellings) where
  abbrev methods : ℕ
  methods = length file.methods

  abbrev Good : LeadParts → Type 0
  Good lead = IsGood n methods lead

  method_spells : (m : ℕ) → m < length file.methods → Spells n (get_or (method_texts file) m []) (spelling_at spellings.methods m)
  method_spells m low = spelling_spelled n (method_texts file) spellings.methods pass.before.before.before.before.before.methods_spell m (rw (length-map file.methods (λ method. method.notation)) low)

  call_spells : (c : ℕ) → c < length file.calls → Spells n (get_or (call_texts file) c []) (spelling_at spellings.calls c)
  call_spells c low = spelling_spelled n (call_texts file) spellings.calls pass.before.before.before.before.calls_spell c (rw (length-map file.calls (λ call. call.notation)) low)

  plain_good : (m : ℕ) → m < length file.methods → Good (lead_from m plain (spelling_at spellings.methods m))
  plain_good m low =
      let spells = method_spells m low in
      record {
        changes = record { some = spells.at_least; few = spells.at_most; each = spelled_changes n _ (spelling_at spellings.methods m) spells };
        from = omega arith;
        to = omega arith;
        known = low;
      }

  called_good : (m mark c : ℕ) → m < length file.methods → c < length file.calls → mark_at file c ≡ mark → is_for file c m ≡ true → Good (lead_from m mark (called_spelling file spellings c m))
  called_good m mark c low within is for_it =
      let marked = pass.before.before.marks c within in
      let fits = pass.before.fits c within m low for_it in
      let call = call_spells c within in
      let rung = method_spells m low in
      let long = called_length (over_at file c) (spelling_at spellings.calls c) (spelling_at spellings.methods m) in
      let least : 1 ≤ length (spelling_at spellings.calls c) = call.at_least in
      let from : 97 ≤ mark_at file c = marked.from in
      let to : mark_at file c ≤ 122 = marked.to in
      record {
        changes = record {
          some = omega arith;
          few = fits.short;
          each = All-append (IsOf n) _ (spelling_at spellings.calls c) (All-take (IsOf n) _ (spelling_at spellings.methods m) (spelled_changes n _ (spelling_at spellings.methods m) rung)) (spelled_changes n _ (spelling_at spellings.calls c) call);
        };
        from = omega arith;
        to = omega arith;
        known = low;
      }

  called_marked : (m mark : ℕ) (found : Option ℕ) → m < length file.methods → call_with file m mark ≡ found → IsMarked Good m mark (called_lead file spellings m mark found)
  called_marked m mark None low is = inl refl
  called_marked m mark (Some c) low is =
      let at = found_at (λ call. nat_eq (mark_at file call) mark && is_for file call m) 0 (length file.calls) c is in
      let within : c < length file.calls = (let h : c < 0 + length file.calls = at.0 in omega arith) in
      let (same, for_it) = and_parts (nat_eq (mark_at file c) mark) (is_for file c m) at.1 in
      let named : mark_at file c ≡ mark = same_mark (mark_at file c) mark same in
      inr (called_spelling file spellings c m, refl, (λ is_plain. (pass.before.before.marks c within).called (named ∙ is_plain)), called_good m mark c low within named for_it)

  abbrev marks : ℕ → ℕ → List LeadParts
  marks m mark = called_lead file spellings m mark (call_with file m mark)

  abbrev later_leads : ℕ → List LeadParts
  later_leads m = flat_map (marks m) (range_with_len 97 26)

  abbrev first_lead : ℕ → LeadParts
  first_lead m = lead_from m plain (spelling_at spellings.methods m)

  method_good : (m : ℕ) → m < length file.methods → All Good (leads_of_method file spellings m)
  method_good m low = All-cons Good (first_lead m) (later_leads m) (plain_good m low)
      (each_of Good (marks m) 97 26 (λ mark from to. marked_each Good m mark (marks m mark) (called_marked m mark (call_with file m mark) low refl)))

  all_good : All Good (leads_of file spellings)
  all_good = each_of Good (leads_of_method file spellings) 0 methods (λ m from to. method_good m (omega arith))

  -- the first lead, and those that follow in order
  front : (k : ℕ) → length file.methods ≡ suc k → leads_of file spellings ≡ first_lead 0 ∷ (later_leads 0 ++ flat_map (leads_of_method file spellings) (range_with_len 1 k))
  front k is = ap (λ number. flat_map (leads_of_method file spellings) (range_with_len 0 number)) is

  later_in_order : (m : ℕ) → m < length file.methods → GoOn (first_lead m).step m (later_leads m)
  later_in_order m low = marks_in_order Good m (marks m) (first_lead m).step 97 26 (λ mark from to. called_marked m mark (call_with file m mark) low refl) refl (inl refl)

  rest_in_order : (k : ℕ) → length file.methods ≡ suc k → Chained (first_lead 0).step (later_leads 0 ++ flat_map (leads_of_method file spellings) (range_with_len 1 k))
  rest_in_order k is =
      let here = later_in_order 0 (omega arith) in
      chained_append (first_lead 0).step (later_leads 0) (flat_map (leads_of_method file spellings) (range_with_len 1 k)) here.0
      (methods_in_order first_lead later_leads (last_step (first_lead 0).step (later_leads 0)) 1 k (λ m from to. (refl, later_in_order m (omega arith))) (ap (λ x. x + 1) here.1))

  steps_right : (first : LeadParts) (rest leads : List LeadParts) → leads ≡ first ∷ rest → first.step.method ≡ 0 → first.step.mark ≡ plain → Chained first.step rest → (i : ℕ) → i < length leads → StepIsRight leads i
  steps_right first rest leads is none mark chained zero low = record {
    first = λ e. (subst (λ (ls : List LeadParts). (step_at ls 0).method ≡ 0) (sym is) none, subst (λ (ls : List LeadParts). (step_at ls 0).mark ≡ plain) (sym is) mark);
    later = λ h. absurd (omega arith);
  }
  steps_right first rest leads is none mark chained (suc i) low = record {
    first = λ e. absurd (omega arith);
    later = λ h.
        let before : suc i - 1 ≡ i = omega arith in
        let long : length leads ≡ length (first ∷ rest) = ap length is in
        let next : IsNextStep (step_at (first ∷ rest) i) (step_at (first ∷ rest) (suc i)) = chained_at first rest chained i (omega arith) in
        subst (λ (j : ℕ). IsNextStep (step_at leads j) (step_at leads (suc i))) (sym before) (subst (λ (ls : List LeadParts). IsNextStep (step_at ls i) (step_at ls (suc i))) (sym is) next);
  }

  lead_right : (i : ℕ) → i < length (leads_of file spellings) → StepIsRight (leads_of file spellings) i → LeadIsRight n (length (letters_of file)) (leads_of file spellings) i
  lead_right i low next =
      let none : LeadParts = lead_from 0 0 [] in
      let good : Good (get_or (leads_of file spellings) i none) = All-get_or Good (leads_of file spellings) i none low all_good in
      let step : step_at (leads_of file spellings) i ≡ (get_or (leads_of file spellings) i none).step = get_or-map (λ lead. lead.step) (leads_of file spellings) i none (record { method = 0; mark = 0 }) low in
      let changes : changes_at (leads_of file spellings) i ≡ (get_or (leads_of file spellings) i none).changes = get_or-map (λ lead. lead.changes) (leads_of file spellings) i none [] low in
      record {
        changes = subst (λ (cs : List Places). AreOfStage n cs) (sym changes) good.changes;
        from = subst (λ (s : Step). 97 ≤ s.mark) (sym step) good.from;
        to = subst (λ (s : Step). s.mark ≤ 122) (sym step) good.to;
        known = subst (λ (s : Step). s.method < length (letters_of file)) (sym step) (rw (length-map file.methods (λ method. byte_of method.letter)) good.known);
        next = next;
      }

  pub leads_right : 1 ≤ length file.methods → LeadsAreRight n (length (letters_of file)) (leads_of file spellings)
  leads_right some =
      let k : ℕ = length file.methods - 1 in
      let is : length file.methods ≡ suc k = omega arith in
      let shape = front k is in
      record {
        some = rw shape (omega arith);
        each = λ i low. lead_right i low (steps_right (first_lead 0) _ (leads_of file spellings) shape refl refl (rest_in_order k is) i low);
        led = λ m low. methods_led first_lead later_leads 0 (length file.methods) m (λ i. refl) (omega arith) (let h : m < length file.methods = rw (length-map file.methods (λ method. byte_of method.letter)) at low in omega arith);
      }

  pub letters_right : 1 ≤ length file.methods → LettersAreRight (letters_of file)
  letters_right some = record {
    some = rw (length-map file.methods (λ method. byte_of method.letter)) some;
    each = λ i low. pass.before.before.before.before.before.before.letters i (rw (length-map file.methods (λ method. byte_of method.letter)) at low);
  }

-- there is a spelling for each text
pub has_spellings : (file : FileParts) (n : ℕ) (spellings : Spellings) → CallsSpell file n spellings → HasSpellings file spellings
has_spellings file n spellings pass = record {
  methods = AllZip-long (Spells n) (method_texts file) spellings.methods pass.before.methods_spell ∙ length-map file.methods (λ method. method.notation);
  calls = AllZip-long (Spells n) (call_texts file) spellings.calls pass.calls_spell ∙ length-map file.calls (λ call. call.notation);
}

-- there are no more methods than letters that may be right
pub few_methods : (file : FileParts) (n : ℕ) → LettersPass file n → length file.methods ≤ 8
few_methods file n pass = elim (cases_lt 8 (length file.methods)) [
  | inl more ↦ (let h : 8 < 8 = (pass.letters 8 more).few in absurd (omega arith))
  | inr few ↦ omega arith
]

pub refused_from : (file : FileParts) (why : ProblemFault) → IsFileFault file why → Refused file why
refused_from file fault.NoMemory is = tt
refused_from file _ is = is

-- a fault of parts whose letters and leads are right is a later one
pub later_fault : (p : ProblemParts) (why : PartFault) → LettersAreRight p.letters → LeadsAreRight p.stage (length p.letters) p.leads → IsPartFault p why → IsLater why
later_fault p why letters leads is = by is.first
  where
    by : IsFirstFailure (checks p) why → IsLater why
    by (inl first) = absurd ((exact_letters p).apart why first letters)
    by (inr (_, inl second)) = absurd ((exact_leads p).apart why second leads)
    by (inr (_, inr (_, inl steps))) = subst IsLater (sym steps.0) tt
    by (inr (_, inr (_, inr (_, inl range)))) = subst IsLater (sym range.0) tt
    by (inr (_, inr (_, inr (_, inr (_, inl depth))))) = subst IsLater (sym depth.0) tt
    by (inr (_, inr (_, inr (_, inr (_, inr (_, inl parts)))))) = subst IsLater (sym parts.0) tt
    by (inr (_, inr (_, inr (_, inr (_, inr (_, inr (_, inl marks))))))) = subst IsLater (sym marks.1) tt
    by (inr (_, inr (_, inr (_, inr (_, inr (_, inr (_, inr (_, inl methods)))))))) = subst IsLater (sym methods.1) tt
    by (inr (_, inr (_, inr (_, inr (_, inr (_, inr (_, inr (_, inr (_, inl patterns))))))))) = subst IsLater (sym patterns.1) tt
    by (inr (_, inr (_, inr (_, inr (_, inr (_, inr (_, inr (_, inr (_, inr (_, inl limits)))))))))) = subst IsLater (sym limits.0) tt
    by (inr (_, inr (_, inr (_, inr (_, inr (_, inr (_, inr (_, inr (_, inr (_, inr (_, none))))))))))) = absurd none

-- a fault of the parts that values make is one of the values
pub fault_made : (file : FileParts) (p : ProblemParts) (why : PartFault) → Makes file p → IsPartFault p why → IsLater why → IsFileFault file (file_fault why)
fault_made file p (part.Letters i) makes is later = absurd later
fault_made file p (part.Leads i) makes is later = absurd later
fault_made file p (part.Steps number) makes is later = (p, makes, is)
fault_made file p (part.Range low high) makes is later = (p, makes, is)
fault_made file p (part.Deep depth) makes is later = (p, makes, is)
fault_made file p (part.Parts parts) makes is later = (p, makes, is)
fault_made file p (part.Count at) makes is later = (p, makes, is)
fault_made file p (part.Pattern i) makes is later = (p, makes, is)
fault_made file p part.Com makes is later = (p, makes, is)
