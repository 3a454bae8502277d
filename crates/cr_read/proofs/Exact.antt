-- What is right of bytes is what the reader answers, but for want of memory.
use Rattle.std.proofs.Common.{◌≡◌, ℕ, ◌⊎◌, List, Ok, Err, refl, ap, inl, inr}
use Rattle.std.specs.Prelude.{MatchResult}
use Rattle.cr_model.specs.Problems.{ProblemParts}
use Rattle.cr_model.specs.declared.file_fault.ProblemFault.{ProblemFault}
use Rattle.cr_model.specs.declared.file_fault.ProblemFault.TheVariants as fault
use Rattle.cr_model.specs.Sound.{IsSound}
use Rattle.cr_model.specs.Files.{FileParts, IsFile}
use Rattle.cr_model.specs.ProblemFiles.{Makes, ProblemFile, FirstProblemFault}
use Rattle.cr_read.specs.Reading.{Refused, NotProblem}
use Rattle.cr_read.proofs.OneAnswer.{Verdict}

not_problem : (bytes : List ℕ) (why : ProblemFault) → NotProblem bytes why → (why ≡ fault.NoMemory) ⊎ FirstProblemFault bytes why
not_problem bytes fault.NoMemory is = inl refl
not_problem bytes _ is = inr is

err_is : (why other : ProblemFault) → why ≡ other → ◌≡◌ {A = Verdict} (Err why) (Err other)
err_is why other is = ap (λ w. Err w) is

-- what is right of a file's values is right of its bytes
refused : (bytes : List ℕ) (file : FileParts) (why : ProblemFault) → IsFile bytes file → Refused file why → NotProblem bytes why
refused bytes file fault.NoMemory is h = tt
refused bytes file fault.NotToml is h = absurd h
refused bytes file (fault.Key path) is h = absurd h
refused bytes file _ is h = (file, is, h)

pub answered : (bytes : List ℕ) (file : FileParts) (r : Verdict) → IsFile bytes file → MatchResult r (λ p. Makes file p × IsSound p) (Refused file) → MatchResult r (ProblemFile bytes) (NotProblem bytes)
answered bytes file (Ok p) is h = record { file = file; is_file = is; makes = h.0; sound = h.1 }
answered bytes file (Err why) is h = refused bytes file why is h

module _ (bytes : List ℕ)
    (one_problem : (one other : ProblemParts) → ProblemFile bytes one → ProblemFile bytes other → one ≡ other)
    (one_fault : (one other : ProblemFault) → FirstProblemFault bytes one → FirstProblemFault bytes other → one ≡ other)
    (never_both : (p : ProblemParts) (why : ProblemFault) → ProblemFile bytes p → FirstProblemFault bytes why → ⊥) where
  pub accepts : (r : Verdict) → MatchResult r (ProblemFile bytes) (NotProblem bytes) → (p : ProblemParts) → ProblemFile bytes p → (r ≡ Ok p) ⊎ (r ≡ Err fault.NoMemory)
  accepts (Ok q) read p is = inl (ap (λ x. Ok x) (one_problem q p read is))
  accepts (Err why) read p is = elim (not_problem bytes why read) [
    | inl none ↦ inr (err_is why fault.NoMemory none)
    | inr found ↦ absurd (never_both p why is found)
  ]

  pub refuses : (r : Verdict) → MatchResult r (ProblemFile bytes) (NotProblem bytes) → (why : ProblemFault) → FirstProblemFault bytes why → (r ≡ Err why) ⊎ (r ≡ Err fault.NoMemory)
  refuses (Ok q) read why is = absurd (never_both q why read is)
  refuses (Err other) read why is = elim (not_problem bytes other read) [
    | inl none ↦ inr (err_is other fault.NoMemory none)
    | inr found ↦ inl (err_is other why (one_fault other why found is))
  ]
