-- Where a text goes wrong first, by the steps that were read before.
use Rattle.std.proofs.Common.{◌≡◌, ℕ, ◌+◌, ◌-◌, ◌<◌, ◌≤◌, ◌⊎◌, min, List, [], ◌∷◌, ◌++◌, length, take, drop, Result, Ok, Err, inl, inr, refl, sym, ap, ap₂, ◌∙◌, subst, arith, append_assoc, append-nil, length-append, length-take, length-drop, take-append-drop}
use Rattle.std.proofs.Math.Seq.{take-add}
use Rattle.std.proofs.lemmas.Bool.{cases_lt}
use Rattle.std.proofs.lemmas.List.{take_at, take_all, take-take, take-append-le, length-take-le, nil_from_length, length_push}
use Rattle.std.proofs.lemmas.List.Concat.{flat_map-append}
use Rattle.std.proofs.lemmas.List.Elements.{All-head, All-push, All-nil, All-cons}
use Rattle.cr_model.specs.Problems.{ProblemParts}
use Rattle.cr_model.specs.Callings.{HasSteps}
use Rattle.cr_model.specs.Books.{lead_text, calling_text}
use Rattle.cr_model.specs.Limits.{most_leads}
use Rattle.cr_model.specs.Sound.{IsSound}
use Rattle.cr_model.proofs.StepsDiffer.{some_step}
use Rattle.cr_book.specs.declared.fault.CallingFault.{CallingFault}
use Rattle.cr_book.specs.declared.fault.CallingFault.TheVariants as fault
use Rattle.cr_book.specs.Readings.{IsCallingText, CanBeginCalling, IsFirstWrongByte}
use Rattle.cr_book.specs.Reads.{Reads}
use Rattle.cr_book.specs.Leads.{lead_width, LeadIsWrong, IsReadTo}
use Rattle.cr_book.proofs.LeadTexts.{wide, some_width, one_lead, one_calling}
use Rattle.cr_book.proofs.PrefixCodes.{after, After, none_from_text}

-- what can begin a calling's text, its fronts can too
begins_shorter : (p : ProblemParts) (front more : List ℕ) → CanBeginCalling p (front ++ more) → CanBeginCalling p front
begins_shorter p front more can = record {
  calling = can.calling;
  more = more ++ can.more;
  begins = record { readable = can.begins.readable; is = can.begins.is ∙ append_assoc front more can.more };
}

front_begins : (p : ProblemParts) (text : List ℕ) (less more : ℕ) → less ≤ more → CanBeginCalling p (take more text) → CanBeginCalling p (take less text)
front_begins p text less more within can =
    begins_shorter p (take less text) (drop less (take more text))
    (subst (CanBeginCalling p) (sym (take-append-drop less (take more text)) ∙ ap (λ l. l ++ drop less (take more text)) (take-take less more text within)) can)

-- of two places the first is not the less
not_less : (p : ProblemParts) (text : List ℕ) (place other : ℕ) → IsFirstWrongByte p text place → IsFirstWrongByte p text other → place < other → ⊥
not_less p text place other one two less = elim one.here [
  | inl at ↦ let within : other ≤ length text = two.within in absurd (omega arith)
  | inr stuck ↦ stuck (front_begins p text (place + 1) other (omega arith) two.before)
]

-- a text goes wrong first at one place
pub one_place : (p : ProblemParts) (text : List ℕ) (place other : ℕ) → IsFirstWrongByte p text place → IsFirstWrongByte p text other → place ≡ other
one_place p text place other one two = elim (cases_lt place other) [
  | inl less ↦ absurd (not_less p text place other one two less)
  | inr within ↦ elim (cases_lt other place) [ inl less ↦ absurd (not_less p text other place two one less) | inr also ↦ omega arith ]
]

-- what reading tells of a calling's text
pub accepted : (p : ProblemParts) → IsSound p → (text : List ℕ) (r : Result (List ℕ) CallingFault) → Reads p text r
    → (calling : List ℕ) → IsCallingText p text calling → (r ≡ Ok calling) ⊎ (r ≡ Err fault.NoMemory)
accepted p sound text (Ok other) reads calling is =
    inl (ap Ok (one_calling p sound other calling reads.readable.steps is.readable.steps (reads.is ∙ sym is.is)))
accepted p sound text (Err (fault.At place)) reads calling is = absurd (reads.none calling is)
accepted p sound text (Err fault.NoMemory) reads calling is = inr refl

module _ (p : ProblemParts) (sound : IsSound p) where
  -- what comes after the steps of a calling whose text begins with theirs
  later : (steps tail calling : List ℕ) → HasSteps p steps → IsCallingText p (calling_text p steps ++ tail) calling
      → After (lead_text p) (λ step. step < length p.leads) (lead_width p) (some_width p) (wide p) (one_lead p sound) steps calling tail
  later steps tail calling known is =
      after (lead_text p) (λ step. step < length p.leads) (lead_width p) (some_width p) (wide p) (one_lead p sound) steps calling tail known is.readable.steps is.is

  -- one lead more was read
  pub read_on : (text steps : List ℕ) (step place : ℕ) → IsReadTo p text steps place → length steps < most_leads → step < length p.leads
      → lead_text p step ≡ take (lead_width p) (drop place text) → IsReadTo p text (steps ++ step ∷ []) (place + lead_width p)
  read_on text steps step place so_far few inside is =
      let within : place ≤ length text = so_far.within in
      let long : lead_width p ≡ min (lead_width p) (length text - place) =
      sym (wide p step) ∙ ap length is ∙ length-take (lead_width p) (drop place text) ∙ ap (min (lead_width p)) (length-drop place text) in
      record {
        known = All-push (λ s. s < length p.leads) steps step so_far.known inside;
        few = omega (arith, length_push steps step);
        within = omega (arith, long);
        is =
            flat_map-append (lead_text p) steps (step ∷ [])
            ∙ ap₂ ◌++◌ so_far.is (append-nil (lead_text p step) ∙ is)
            ∙ sym (take-add place (lead_width p) text);
      }

  -- a calling of the greatest number of steps does not go on
  too_long : (steps tail calling : List ℕ) → HasSteps p steps → length steps ≡ most_leads → 0 < length tail
      → IsCallingText p (calling_text p steps ++ tail) calling → ⊥
  too_long steps tail calling known full some is =
      let rest = later steps tail calling known is in
      by rest.rest (rest.is) (rest.text)
    where
      by : (rest : List ℕ) → calling ≡ steps ++ rest → calling_text p rest ≡ tail → ⊥
      by [] e text = let none : 0 ≡ length tail = ap length text in absurd (omega arith)
      by (step ∷ rest) e text =
          let few : length calling ≤ 1024 = is.readable.few in
          let long : length calling ≡ length steps + length (step ∷ rest) = ap length e ∙ length-append steps (step ∷ rest) in
          absurd (omega (arith, full))

  -- the text, from what was read on
  split : (text steps : List ℕ) (place : ℕ) → IsReadTo p text steps place → text ≡ calling_text p steps ++ drop place text
  split text steps place so_far = sym (take-append-drop place text) ∙ ap (λ l. l ++ drop place text) (sym so_far.is)

  -- and a front of it
  split_front : (text steps more : List ℕ) (place count : ℕ) → IsReadTo p text steps place
      → take (place + count) text ++ more ≡ calling_text p steps ++ (take count (drop place text) ++ more)
  split_front text steps more place count so_far =
      ap (λ l. l ++ more) (take-add place count text ∙ ap (λ l. l ++ take count (drop place text)) (sym so_far.is))
      ∙ append_assoc (calling_text p steps) (take count (drop place text)) more

  some_left : (text : List ℕ) (place : ℕ) → place < length text → 0 < length (drop place text)
  some_left text place inside = omega (arith, length-drop place text)

  -- the text goes on after the greatest number of steps
  pub too_many : (text steps : List ℕ) (place : ℕ) → IsReadTo p text steps place → length steps ≡ most_leads → place < length text
      → IsFirstWrongByte p text place
  too_many text steps place so_far full inside = record {
    none = λ calling is. too_long steps (drop place text) calling so_far.known full (some_left text place inside)
        (subst (λ l. IsCallingText p l calling) (split text steps place so_far) is);
    within = omega arith;
    before = record {
      calling = steps;
      more = [];
      begins = record {
        readable = record { steps = so_far.known; some = omega (arith, full); few = omega (arith, full) };
        is = so_far.is ∙ sym (append-nil (take place text));
      };
    };
    here = inr (λ can. too_long steps (take 1 (drop place text) ++ can.more) can.calling so_far.known full
        (omega (arith, length-append (take 1 (drop place text)) can.more, length-take 1 (drop place text), some_left text place inside))
        (subst (λ l. IsCallingText p l can.calling) (split_front text steps can.more place 1 so_far) can.begins));
  }

  -- nothing is read of no text
  pub no_text : (text : List ℕ) → length text ≡ 0 → IsFirstWrongByte p text 0
  no_text text none = record {
    none = λ calling is.
        let nil : calling ≡ [] = none_from_text (lead_text p) (λ step. step < length p.leads) (lead_width p) (some_width p) (wide p) (one_lead p sound) calling (ap length is.is ∙ none) in
        let some : 1 ≤ length calling = is.readable.some in
        absurd (omega (arith, ap length nil));
    within = omega arith;
    before = record {
      calling = 0 ∷ [];
      more = lead_text p 0 ++ [];
      begins = record {
        readable = record {
          steps = All-cons (λ s. s < length p.leads) 0 [] (some_step p sound) (All-nil (λ s. s < length p.leads));
          some = omega arith;
          few = omega arith;
        };
        is = refl;
      };
    };
    here = inl (sym none);
  }

  -- the whole text is read
  pub whole_text : (text steps : List ℕ) (place : ℕ) → IsReadTo p text steps place → length text ≤ place → 0 < length steps → IsCallingText p text steps
  whole_text text steps place so_far done some = record {
    readable = record { steps = so_far.known; some = omega arith; few = so_far.few };
    is = so_far.is ∙ take_all place text done;
  }

  -- the whole text was read, lead by lead
  pub all_read : (text steps : List ℕ) (place : ℕ) (r : Result (List ℕ) CallingFault) → IsReadTo p text steps place → length text ≤ place
      → (length steps ≡ 0 → r ≡ Err (fault.At 0)) → (0 < length steps → r ≡ Ok steps) → Reads p text r
  all_read text steps place r so_far done nothing something = elim (cases_lt 0 (length steps)) [
    | inl some ↦ subst (Reads p text) (sym (something some)) (whole_text text steps place so_far done some)
    | inr few ↦
        let none : length steps ≡ 0 = omega arith in
        let nil : steps ≡ [] = nil_from_length steps none in
        let empty : length text ≡ 0 = ap length (sym (take_all place text done) ∙ sym so_far.is ∙ ap (calling_text p) nil) in
        subst (Reads p text) (sym (nothing none)) (no_text text empty)
  ]

  -- no lead's text goes on as the text does
  no_lead : (text : List ℕ) (place : ℕ) → LeadIsWrong p text place → place < length text
      → (front rest : List ℕ) → HasSteps p rest → calling_text p rest ≡ front → take (place + 1) front ≡ take (place + 1) text → 0 < length front → ⊥
  no_lead text place wrong inside front [] known e same some = let none : 0 ≡ length front = ap length e in absurd (omega arith)
  no_lead text place wrong inside front (step ∷ rest) known e same some =
      let before = wrong.before in
      let first : length (take place text) ≡ place = length-take-le place text wrong.within in
      let fits : place + 1 ≤ length (lead_text p step) =
      omega (arith, first, wide p step, wide p before.step, ap length before.begins, length-append (take place text) before.more, before.some) in
      let is : take (place + 1) (lead_text p step) ≡ take (place + 1) text =
      sym (take-append-le (place + 1) (lead_text p step) (calling_text p rest) fits) ∙ ap (take (place + 1)) e ∙ same in
      wrong.here inside step (All-head (λ s. s < length p.leads) step rest known) (drop (place + 1) (lead_text p step))
      (sym (take-append-drop (place + 1) (lead_text p step)) ∙ ap (λ l. l ++ drop (place + 1) (lead_text p step)) is)

  -- no calling has a text that ends within a lead
  no_end : (text : List ℕ) (place : ℕ) → LeadIsWrong p text place → length text ≤ place → 0 < length text
      → (rest : List ℕ) → HasSteps p rest → calling_text p rest ≡ text → ⊥
  no_end text place wrong ends some [] known e = let none : 0 ≡ length text = ap length e in absurd (omega arith)
  no_end text place wrong ends some (step ∷ rest) known e =
      let before = wrong.before in
      let within : place ≤ length text = wrong.within in
      let first : length (take place text) ≡ place = length-take-le place text wrong.within in
      absurd (omega (arith, first, wide p step, wide p before.step, ap length before.begins, length-append (take place text) before.more, before.some, ap length e, length-append (lead_text p step) (calling_text p rest)))

  -- a lead goes wrong after the steps read so far
  pub wrong_lead : (text steps : List ℕ) (place count : ℕ) → IsReadTo p text steps place → length steps < most_leads → place < length text
      → LeadIsWrong p (drop place text) count → IsFirstWrongByte p text (place + count)
  wrong_lead text steps place count so_far few inside wrong =
      let left : length (drop place text) ≡ length text - place = length-drop place text in
      let within : count ≤ length (drop place text) = wrong.within in
      let before = wrong.before in
      record {
        none = λ calling is.
            let rest = later steps (drop place text) calling so_far.known (subst (λ l. IsCallingText p l calling) (split text steps place so_far) is) in
            elim (cases_lt count (length (drop place text))) [
              | inl more ↦ no_lead (drop place text) count wrong more (drop place text) rest.rest rest.known rest.text refl (some_left text place inside)
              | inr ends ↦ no_end (drop place text) count wrong ends (some_left text place inside) rest.rest rest.known rest.text
            ];
        within = omega arith;
        before = record {
          calling = steps ++ before.step ∷ [];
          more = before.more;
          begins = record {
            readable = record {
              steps = All-push (λ s. s < length p.leads) steps before.step so_far.known before.known;
              some = omega (arith, length_push steps before.step);
              few = omega (arith, length_push steps before.step);
            };
            is =
                flat_map-append (lead_text p) steps (before.step ∷ [])
                ∙ ap (λ l. calling_text p steps ++ l) (append-nil (lead_text p before.step) ∙ before.begins)
                ∙ sym (split_front text steps before.more place count so_far);
          };
        };
        here = elim (cases_lt count (length (drop place text))) [
          | inl more ↦ inr (λ can.
              let front = take (count + 1) (drop place text) in
              let long : length front ≡ count + 1 = length-take-le (count + 1) (drop place text) (omega arith) in
              let sum : place + count + 1 ≡ place + (count + 1) = omega arith in
              let cut : take (place + count + 1) text ++ can.more ≡ calling_text p steps ++ (front ++ can.more) =
              ap (λ n. take n text ++ can.more) sum ∙ split_front text steps can.more place (count + 1) so_far in
              let rest = later steps (front ++ can.more) can.calling so_far.known (subst (λ l. IsCallingText p l can.calling) cut can.begins) in
              no_lead (drop place text) count wrong more (front ++ can.more) rest.rest rest.known rest.text
              (take_at front can.more (count + 1) long) (omega (arith, length-append front can.more, long)))
          | inr ends ↦ inl (omega arith)
        ];
      }
