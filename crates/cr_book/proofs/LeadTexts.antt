-- The texts of leads: how wide they are, and which step has which.
use Rattle.std.proofs.Common.{◌≡◌, ◌≢◌, ℕ, ◌<◌, ◌≤◌, Bool, true, false, cond, nat_lt, List, [], ◌∷◌, length, get_or, take, inl, inr, refl, sym, ap, ap₂, ◌∙◌, arith, lt-ltb, le-ltb}
use Rattle.std.proofs.lemmas.Bool.{cases_lt}
use Rattle.cr_model.specs.Problems.{ProblemParts}
use Rattle.cr_model.specs.Callings.{HasSteps, method_of, mark_of, letter_of}
use Rattle.cr_model.specs.Books.{lead_text, calling_text}
use Rattle.cr_model.specs.Sound.{IsSound}
use Rattle.cr_model.proofs.StepsDiffer.{one_step, one_method, known_method, some_step, led}
use Rattle.cr_book.specs.Leads.{lead_width, IsStepWith, LeadIsWrong, LeadCanBegin}
use Rattle.cr_book.proofs.PrefixCodes.{same_from_text}

module _ (p : ProblemParts) where
  as_wide : (b : Bool) (x y : ℕ) → length (cond b (x ∷ y ∷ []) (y ∷ [])) ≡ cond b 2 1
  as_wide true x y = refl
  as_wide false x y = refl

  -- each lead's text is as wide
  pub wide : (step : ℕ) → length (lead_text p step) ≡ lead_width p
  wide step = as_wide (nat_lt 1 (length p.letters)) (letter_of p step) (mark_of p step)

  one_or_two : (b : Bool) → 1 ≤ cond b 2 1
  one_or_two true = omega arith
  one_or_two false = omega arith

  pub some_width : 1 ≤ lead_width p
  some_width = one_or_two (nat_lt 1 (length p.letters))

  -- of several methods a letter and a mark, of one the mark
  pub lettered : 1 < length p.letters → (step : ℕ) → lead_text p step ≡ letter_of p step ∷ mark_of p step ∷ []
  lettered many step = ap (λ b. cond b (letter_of p step ∷ mark_of p step ∷ []) (mark_of p step ∷ [])) (lt-ltb 1 (length p.letters) many)

  pub marked : length p.letters ≤ 1 → (step : ℕ) → lead_text p step ≡ mark_of p step ∷ []
  marked few step = ap (λ b. cond b (letter_of p step ∷ mark_of p step ∷ []) (mark_of p step ∷ [])) (le-ltb 1 (length p.letters) few)

  pub two_wide : 1 < length p.letters → lead_width p ≡ 2
  two_wide many = ap (λ b. cond b 2 1) (lt-ltb 1 (length p.letters) many)

  pub one_wide : length p.letters ≤ 1 → lead_width p ≡ 1
  one_wide few = ap (λ b. cond b 2 1) (le-ltb 1 (length p.letters) few)

module _ (p : ProblemParts) (sound : IsSound p) where
  -- a text is that of one step
  pub one_lead : (step other : ℕ) → step < length p.leads → other < length p.leads → lead_text p step ≡ lead_text p other → step ≡ other
  one_lead step other inside within same = elim (cases_lt 1 (length p.letters)) [
    | inl many ↦
        let both : letter_of p step ∷ mark_of p step ∷ [] ≡ letter_of p other ∷ mark_of p other ∷ [] = sym (lettered p many step) ∙ same ∙ lettered p many other in
        let method : method_of p step ≡ method_of p other =
        one_method p sound (method_of p step) (method_of p other) (known_method p sound step inside) (known_method p sound other within) (ap (λ l. get_or l 0 0) both) in
        one_step p sound step other inside within method (ap (λ l. get_or l 1 0) both)
    | inr few ↦
        let marks : mark_of p step ∷ [] ≡ mark_of p other ∷ [] = sym (marked p few step) ∙ same ∙ marked p few other in
        let method : method_of p step ≡ method_of p other = omega (arith, few, known_method p sound step inside, known_method p sound other within) in
        one_step p sound step other inside within method (ap (λ l. get_or l 0 0) marks)
  ]

  -- a calling's text is its alone
  pub one_calling : (calling other : List ℕ) → HasSteps p calling → HasSteps p other → calling_text p calling ≡ calling_text p other → calling ≡ other
  one_calling = same_from_text (lead_text p) (λ step. step < length p.leads) (lead_width p) (some_width p) (wide p) one_lead

  -- a mark that the one method has
  pub marked_right : (few : length p.letters ≤ 1) (text : List ℕ) (step : ℕ) → 0 < length text → IsStepWith p 0 (get_or text 0 0) step
      → (step < length p.leads) × (lead_text p step ≡ take (lead_width p) text)
  marked_right few [] step some is = absurd (omega arith)
  marked_right few (x ∷ text) step some is = (
    is.known,
    marked p few step ∙ ap (λ m. m ∷ []) is.mark_is ∙ ap (λ w. take w (x ∷ text)) (sym (one_wide p few)),
  )

  -- a mark that it has not
  pub marked_wrong : (few : length p.letters ≤ 1) (text : List ℕ) → 0 < length text
      → ((step : ℕ) → IsStepWith p 0 (get_or text 0 0) step → ⊥) → LeadIsWrong p text 0
  marked_wrong few [] some none = absurd (omega arith)
  marked_wrong few (x ∷ text) some none = record {
    within = omega arith;
    before = record { step = 0; more = lead_text p 0; known = some_step p sound; begins = refl; some = omega (arith, wide p 0, some_width p) };
    here = λ inside step known more begins. none step (record {
      known = known;
      method_is = omega (arith, few, known_method p sound step known);
      mark_is = ap (λ l. get_or l 0 0) (sym (marked p few step) ∙ begins);
    });
  }

  -- a method's letter, and a mark that it has
  pub lettered_right : (many : 1 < length p.letters) (text : List ℕ) (method step : ℕ) → 0 < length text → length text ≢ 1
      → get_or p.letters method 0 ≡ get_or text 0 0 → IsStepWith p method (get_or text 1 0) step
      → (step < length p.leads) × (lead_text p step ≡ take (lead_width p) text)
  lettered_right many [] method step some more letter is = absurd (omega arith)
  lettered_right many (x ∷ []) method step some more letter is = absurd (more refl)
  lettered_right many (x ∷ y ∷ text) method step some more letter is = (
    is.known,
    lettered p many step
        ∙ ap₂ (λ l m. l ∷ m ∷ []) (ap (λ k. get_or p.letters k 0) is.method_is ∙ letter) is.mark_is
        ∙ ap (λ w. take w (x ∷ y ∷ text)) (sym (two_wide p many)),
  )

  -- no method's letter
  pub letter_wrong : (many : 1 < length p.letters) (text : List ℕ) → 0 < length text
      → ((method : ℕ) → method < length p.letters → get_or p.letters method 0 ≢ get_or text 0 0) → LeadIsWrong p text 0
  letter_wrong many [] some none = absurd (omega arith)
  letter_wrong many (x ∷ text) some none = record {
    within = omega arith;
    before = record { step = 0; more = lead_text p 0; known = some_step p sound; begins = refl; some = omega (arith, wide p 0, some_width p) };
    here = λ inside step known more begins. none (method_of p step) (known_method p sound step known) (ap (λ l. get_or l 0 0) (sym (lettered p many step) ∙ begins));
  }

  -- a method's letter begins a lead of it
  letter_begins : (many : 1 < length p.letters) (letter method : ℕ) → method < length p.letters → get_or p.letters method 0 ≡ letter → LeadCanBegin p (letter ∷ [])
  letter_begins many letter method known is =
      let (step, inside, of_it) = led p sound method known in
      record {
        step = step;
        more = mark_of p step ∷ [];
        known = inside;
        begins = lettered p many step ∙ ap (λ l. l ∷ mark_of p step ∷ []) (ap (λ k. get_or p.letters k 0) of_it ∙ is);
        some = omega arith;
      }

  -- the text ends after a method's letter
  pub letter_alone : (many : 1 < length p.letters) (text : List ℕ) (method : ℕ) → length text ≡ 1 → method < length p.letters
      → get_or p.letters method 0 ≡ get_or text 0 0 → LeadIsWrong p text 1
  letter_alone many [] method one known is = absurd (omega arith)
  letter_alone many (x ∷ y ∷ text) method one known is = absurd (omega arith)
  letter_alone many (x ∷ []) method one known is = record {
    within = omega arith;
    before = letter_begins many x method known is;
    here = λ inside step also more begins. absurd (omega arith);
  }

  -- a method's letter, and a mark that it has not
  pub mark_wrong : (many : 1 < length p.letters) (text : List ℕ) (method : ℕ) → 0 < length text → length text ≢ 1 → method < length p.letters
      → get_or p.letters method 0 ≡ get_or text 0 0 → ((step : ℕ) → IsStepWith p method (get_or text 1 0) step → ⊥) → LeadIsWrong p text 1
  mark_wrong many [] method some more known is none = absurd (omega arith)
  mark_wrong many (x ∷ []) method some more known is none = absurd (more refl)
  mark_wrong many (x ∷ y ∷ text) method some more known is none = record {
    within = omega arith;
    before = letter_begins many x method known is;
    here = λ inside step also more begins.
        let both : letter_of p step ∷ mark_of p step ∷ [] ≡ x ∷ y ∷ more = sym (lettered p many step) ∙ begins in
        none step (record {
          known = also;
          method_is = one_method p sound (method_of p step) method (known_method p sound step also) known (ap (λ l. get_or l 0 0) both ∙ sym is);
          mark_is = ap (λ l. get_or l 1 0) both;
        });
  }
