-- The leads of a file are the leads that there are: no other stands in their list, and none is left out.
use Rattle.std.proofs.Common.{◌≡◌, ◌≢◌, ℕ, zero, suc, ◌+◌, ◌<◌, ◌≤◌, ◌↔◌, Bool, true, false, ◌&&◌, Option, Some, None, List, [], ◌∷◌, length, refl, sym, ap, subst, ◌∙◌, inl, inr, arith}
use Rattle.std.specs.Prelude.{flat_map, All, Contains, nat_eq}
use Rattle.std.specs.List.{range_with_len, find}
use Rattle.std.proofs.lemmas.Bool.{cases_Bool, and_parts, cases_lt}
use Rattle.std.proofs.lemmas.Bool.Decides.{nat_tests}
use Rattle.std.proofs.lemmas.List.Elements.{All-nil, All-cons, All-contains, Contains-append_left, Contains-append_right}
use Rattle.cr_model.specs.Problems.{LeadParts}
use Rattle.cr_model.specs.Right.{plain}
use Rattle.cr_model.specs.Files.{FileParts}
use Rattle.cr_model.specs.ProblemFiles.{Spellings, mark_at, is_for, spelling_at, called_spelling, call_with, lead_from, called_lead, leads_of_method, leads_of, CallsPass}
use Rattle.cr_read.specs.Steps.{IsLeadOf}
use Rattle.cr_read.proofs.StepOrder.{each_of}
use Rattle.cr_read.proofs.LeadsRight.{found_at, same_mark}

held_later : {X : Type 0} (x z : X) (xs : List X) → Contains xs z → Contains (x ∷ xs) z
held_later x z xs held = (suc held.0, (let h : held.0 < length xs = held.1 in omega arith), held.2)

held_in : (z : LeadParts) (f : ℕ → List LeadParts) (a n i : ℕ) → a ≤ i → i < a + n → Contains (f i) z → Contains (flat_map f (range_with_len a n)) z
held_in z f a zero i from to held = absurd (omega arith)
held_in z f a (suc n) i from to held = elim (cases_lt a i) [
  | inl less ↦ Contains-append_right (f a) (flat_map f (range_with_len (a + 1) n)) z (held_in z f (a + 1) n i (omega arith) (omega arith) held)
  | inr more ↦ (let same : i ≡ a = omega arith in Contains-append_left (f a) (flat_map f (range_with_len (a + 1) n)) z (subst (λ (k : ℕ). Contains (f k) z) same held))
]

-- what passes a test is found, or something before it
finds : (test : ℕ → Bool) (a n c : ℕ) → a ≤ c → c < a + n → test c ≡ true → (x : ℕ) × (find test (range_with_len a n) ≡ Some x)
finds test a zero c from to passes = absurd (omega arith)
finds test a (suc n) c from to passes = elim (cases_Bool (test a)) [
  | inl holds ↦ (a, rw holds refl)
  | inr fails ↦
      let later : a ≢ c = (λ same. let e : true ≡ false = sym passes ∙ ap test (sym same) ∙ fails in cc) in
      let rest = finds test (a + 1) n c (omega arith) (omega arith) passes in
      (rest.0, rw fails rest.1)
]

test_of : (a b : ℕ) → a ≡ b → nat_eq a b ≡ true
test_of a b e = grind (arith, nat_tests)

both : (x y : Bool) → x ≡ true → y ≡ true → (x && y) ≡ true
both x y a b = rw (a, b)

module _ (file : FileParts) (n : ℕ) (spellings : Spellings) (pass : CallsPass file n spellings) where
  -- the call for a method with a mark is the one that has it
  the_call : (c m x : ℕ) → c < length file.calls → x < length file.calls → m < length file.methods → mark_at file x ≡ mark_at file c → is_for file x m ≡ true → is_for file c m ≡ true → x ≡ c
  the_call c m x low there within same for_x for_c = elim (cases_lt x c) [
    | inl less ↦ absurd (pass.apart c low x less same m within for_x for_c)
    | inr more ↦ elim (cases_lt c x) [ inl less ↦ absurd (pass.apart x there c less (sym same) m within for_c for_x) | inr few ↦ omega arith ]
  ]

  finds_call : (c m : ℕ) → c < length file.calls → m < length file.methods → is_for file c m ≡ true → call_with file m (mark_at file c) ≡ Some c
  finds_call c m low within for_it =
      let test : ℕ → Bool = λ call. nat_eq (mark_at file call) (mark_at file c) && is_for file call m in
      let found = finds test 0 (length file.calls) c (omega arith) (omega arith) (both (nat_eq (mark_at file c) (mark_at file c)) (is_for file c m) (test_of (mark_at file c) (mark_at file c) refl) for_it) in
      let at = found_at test 0 (length file.calls) found.0 found.1 in
      let (same, for_x) = and_parts (nat_eq (mark_at file found.0) (mark_at file c)) (is_for file found.0 m) at.1 in
      let there : found.0 < length file.calls = (let h : found.0 < 0 + length file.calls = at.0 in omega arith) in
      found.1 ∙ ap (λ k. Some k) (the_call c m found.0 low there within (same_mark (mark_at file found.0) (mark_at file c) same) for_x for_it)

  call_is_lead : (m mark : ℕ) (found : Option ℕ) → m < length file.methods → call_with file m mark ≡ found → All (IsLeadOf file spellings) (called_lead file spellings m mark found)
  call_is_lead m mark None within is = All-nil (IsLeadOf file spellings)
  call_is_lead m mark (Some c) within is =
      let at = found_at (λ call. nat_eq (mark_at file call) mark && is_for file call m) 0 (length file.calls) c is in
      let there : c < length file.calls = (let h : c < 0 + length file.calls = at.0 in omega arith) in
      let (same, for_it) = and_parts (nat_eq (mark_at file c) mark) (is_for file c m) at.1 in
      All-cons (IsLeadOf file spellings) (lead_from m mark (called_spelling file spellings c m)) []
      (m, within, inr (c, there, for_it, ap (λ k. lead_from m k (called_spelling file spellings c m)) (sym (same_mark (mark_at file c) mark same)))) (All-nil (IsLeadOf file spellings))

  all_are : All (IsLeadOf file spellings) (leads_of file spellings)
  all_are = each_of (IsLeadOf file spellings) (leads_of_method file spellings) 0 (length file.methods) (λ m from to.
      let within : m < length file.methods = omega arith in
      All-cons (IsLeadOf file spellings) (lead_from m plain (spelling_at spellings.methods m)) _ (m, within, inl refl)
      (each_of (IsLeadOf file spellings) (λ mark. called_lead file spellings m mark (call_with file m mark)) 97 26 (λ mark low high. call_is_lead m mark (call_with file m mark) within refl)))

  plain_held : (m : ℕ) → Contains (leads_of_method file spellings m) (lead_from m plain (spelling_at spellings.methods m))
  plain_held m = (zero, omega arith, refl)

  call_held : (c m : ℕ) → c < length file.calls → m < length file.methods → is_for file c m ≡ true → Contains (leads_of_method file spellings m) (lead_from m (mark_at file c) (called_spelling file spellings c m))
  call_held c m low within for_it =
      let lead : LeadParts = lead_from m (mark_at file c) (called_spelling file spellings c m) in
      let right = pass.before.before.marks c low in
      let from : 97 ≤ mark_at file c = right.from in
      let to : mark_at file c ≤ 122 = right.to in
      held_later (lead_from m plain (spelling_at spellings.methods m)) lead _
      (held_in lead (λ mark. called_lead file spellings m mark (call_with file m mark)) 97 26 (mark_at file c) (omega arith) (omega arith)
      (subst (λ (found : Option ℕ). Contains (called_lead file spellings m (mark_at file c) found) lead) (sym (finds_call c m low within for_it)) (zero, omega arith, refl)))

  held : (lead : LeadParts) → IsLeadOf file spellings lead → Contains (leads_of file spellings) lead
  held lead (m, within, inl is) = subst (λ (l : LeadParts). Contains (leads_of file spellings) l) (sym is) (held_in (lead_from m plain (spelling_at spellings.methods m)) (leads_of_method file spellings) 0 (length file.methods) m (omega arith) (omega arith) (plain_held m))
  held lead (m, within, inr call) = subst (λ (l : LeadParts). Contains (leads_of file spellings) l) (sym call.3)
      (held_in (lead_from m (mark_at file call.0) (called_spelling file spellings call.0 m)) (leads_of_method file spellings) 0 (length file.methods) m (omega arith) (omega arith) (call_held call.0 m call.1 within call.2))

  pub exactly_leads : (lead : LeadParts) → Contains (leads_of file spellings) lead ↔ IsLeadOf file spellings lead
  exactly_leads lead = (λ there. All-contains (IsLeadOf file spellings) (leads_of file spellings) lead all_are there, λ is. held lead is)
