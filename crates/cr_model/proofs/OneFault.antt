-- Parts have one answer: they are a problem, or have one fault.
use Rattle.std.proofs.Common.{◌≡◌, ℕ, false, true, length, inl, inr, arith}
use Rattle.std.proofs.lemmas.Bool.{false≢true}
use Rattle.cr_model.specs.declared.fault.CountAt.TheVariants as counted
use Rattle.cr_model.specs.declared.fault.PartFault.{PartFault}
use Rattle.cr_model.specs.declared.fault.PartFault.TheVariants as fault
use Rattle.cr_model.specs.Problems.{ProblemParts}
use Rattle.cr_model.specs.Right.{LettersAreRight, LeadsAreRight}
use Rattle.cr_model.specs.Faults.{LettersWrongAt, LeadsWrongAt, checks, query_checks, letters_check, leads_check, IsPartFault}
use Rattle.cr_model.specs.Sound.{IsSound}
use Rattle.cr_model.proofs.FirstFailure.{IsExact, AreExact, one_first, exact_one_fault, exact_index, exact_each_index, none_fails, one_failure}

module _ (p : ProblemParts) where
  letters_fail : (i : ℕ) → LettersWrongAt p.letters i → LettersAreRight p.letters → ⊥
  letters_fail i (inl none) right = omega (arith, none.0, right.some)
  letters_fail i (inr first) right = first.wrong (right.each i first.within)

  one_letter : (i j : ℕ) → LettersWrongAt p.letters i → LettersWrongAt p.letters j → i ≡ j
  one_letter i j (inl a) (inl b) = omega (arith, a.1, b.1)
  one_letter i j (inl a) (inr b) = omega (arith, a.0, b.within)
  one_letter i j (inr a) (inl b) = omega (arith, b.0, a.within)
  one_letter i j (inr a) (inr b) = one_first _ _ i j a b

  pub exact_letters : IsExact (letters_check p)
  exact_letters = exact_index (LettersAreRight p.letters) fault.Letters (LettersWrongAt p.letters) letters_fail one_letter

  leads_fail : (i : ℕ) → LeadsWrongAt p.stage (length p.letters) p.leads i
      → LeadsAreRight p.stage (length p.letters) p.leads → ⊥
  leads_fail i (inl first) right = first.wrong (right.each i first.within)
  leads_fail i (inr unled) right = let led = right.led unled.2.0 unled.2.1 in unled.2.2 led.0 led.1 led.2

  one_lead : (i j : ℕ) → LeadsWrongAt p.stage (length p.letters) p.leads i
      → LeadsWrongAt p.stage (length p.letters) p.leads j → i ≡ j
  one_lead i j (inl a) (inl b) = one_first _ _ i j a b
  one_lead i j (inl a) (inr b) = absurd (a.wrong (b.1 i a.within))
  one_lead i j (inr a) (inl b) = absurd (b.wrong (a.1 j b.within))
  one_lead i j (inr a) (inr b) = omega (arith, a.0, b.0)

  pub exact_leads : IsExact (leads_check p)
  exact_leads = exact_index (LeadsAreRight p.stage (length p.letters) p.leads) fault.Leads (LeadsWrongAt p.stage (length p.letters) p.leads) leads_fail one_lead

  query_exact : AreExact (query_checks p)
  query_exact =
      (exact_each_index _ _ (λ i. fault.Count (counted.Mark i)), (exact_each_index _ _ (λ i. fault.Count (counted.Method i)), (exact_each_index _ _ fault.Pattern, (exact_one_fault _ _, tt))))

  pub all_exact : AreExact (checks p)
  all_exact =
      (exact_letters, (exact_leads, (exact_one_fault _ _, (exact_one_fault _ _, (exact_one_fault _ _, (exact_one_fault _ _, query_exact))))))

  pub sound_has_no_fault : (f : PartFault) → IsSound p → IsPartFault p f → ⊥
  sound_has_no_fault f sound wrong = none_fails (checks p) all_exact f sound.checks wrong.first

  pub one_part_fault : (f g : PartFault) → IsPartFault p f → IsPartFault p g → f ≡ g
  one_part_fault f g a b = one_failure (checks p) all_exact f g a.first b.first

-- a fault refuses the parts
pub refused : (p : ProblemParts) (f : PartFault) → IsPartFault p f
    → (false ≡ true → IsSound p) × (IsSound p → false ≡ true)
refused p f wrong = (λ h. absurd (false≢true h), λ sound. absurd (sound_has_no_fault p f sound wrong))
