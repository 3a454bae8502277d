-- The texts of leads and of callings tell the steps.
use Rattle.std.proofs.Common.{◌≡◌, ℕ, ◌<◌, ◌≤◌, cond, List, [], ◌∷◌, length, get_or, inl, inr, sym, ap, ◌∙◌, arith, lt-ltb, le-ltb}
use Rattle.std.proofs.lemmas.Bool.{cases_lt}
use Rattle.cr_model.specs.Problems.{ProblemParts}
use Rattle.cr_model.specs.Callings.{HasSteps, method_of, mark_of, letter_of}
use Rattle.cr_model.specs.Books.{lead_text, calling_text}
use Rattle.cr_model.specs.Sound.{IsSound}
use Rattle.cr_model.proofs.StepsDiffer.{one_step, one_method, known_method}
use Rattle.cr_audit.proofs.SameTexts.{same_from_text}
use Rattle.cr_audit.specs.Nodes.{width}
use Rattle.cr_audit.proofs.Walking.{wide, some_width}

module _ (p : ProblemParts) where
  -- of several methods a letter and a mark, of one the mark
  pub lettered : 1 < length p.letters → (step : ℕ) → lead_text p step ≡ letter_of p step ∷ mark_of p step ∷ []
  lettered many step = ap (λ b. cond b (letter_of p step ∷ mark_of p step ∷ []) (mark_of p step ∷ [])) (lt-ltb 1 (length p.letters) many)

  pub marked : length p.letters ≤ 1 → (step : ℕ) → lead_text p step ≡ mark_of p step ∷ []
  marked few step = ap (λ b. cond b (letter_of p step ∷ mark_of p step ∷ []) (mark_of p step ∷ [])) (le-ltb 1 (length p.letters) few)

module _ (p : ProblemParts) (sound : IsSound p) where
  -- a text is that of one step
  pub one_lead : (step other : ℕ) → step < length p.leads → other < length p.leads → lead_text p step ≡ lead_text p other → step ≡ other
  one_lead step other inside within same = elim (cases_lt 1 (length p.letters)) [
    | inl many ↦
        let both : letter_of p step ∷ mark_of p step ∷ [] ≡ letter_of p other ∷ mark_of p other ∷ [] = sym (lettered p many step) ∙ same ∙ lettered p many other in
        let method : method_of p step ≡ method_of p other =
        one_method p sound (method_of p step) (method_of p other) (known_method p sound step inside) (known_method p sound other within) (ap (λ l. get_or l 0 0) both) in
        one_step p sound step other inside within method (ap (λ l. get_or l 1 0) both)
    | inr few ↦
        let marks : mark_of p step ∷ [] ≡ mark_of p other ∷ [] = sym (marked p few step) ∙ same ∙ marked p few other in
        let method : method_of p step ≡ method_of p other = omega (arith, few, known_method p sound step inside, known_method p sound other within) in
        one_step p sound step other inside within method (ap (λ l. get_or l 0 0) marks)
  ]

  -- a calling's text is its alone
  pub one_calling : (calling other : List ℕ) → HasSteps p calling → HasSteps p other → calling_text p calling ≡ calling_text p other → calling ≡ other
  one_calling = same_from_text (lead_text p) (λ step. step < length p.leads) (width p) (some_width p) (wide p) one_lead
