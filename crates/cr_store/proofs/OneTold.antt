-- An answer that is right is the only one, but for want of memory.
use Rattle.std.proofs.Common.{◌≡◌, ℕ, ◌^◌, ◌<◌, ◌⊎◌, List, length, Result, Ok, Err, inl, inr, ap, MatchResult}
use Rattle.cr_model.specs.Checkpoints.{CheckFile}
use Rattle.cr_store.specs.declared.fault.CheckFault.{CheckFault}
use Rattle.cr_store.specs.declared.fault.CheckFault.TheVariants as fault
use Rattle.cr_store.specs.Faults.{FirstCheckFault, OrNoMemory}
use Rattle.cr_store.specs.Progress.{Progress}

module _ (bytes : List ℕ) (few : length bytes < 2 ^ 63)
    (one_checkpoint : (bytes : List ℕ) (c other : Progress) → length bytes < 2 ^ 63 → CheckFile bytes c.bytes c.problem c.found c.jobs
    → CheckFile bytes other.bytes other.problem other.found other.jobs → c ≡ other)
    (one_fault : (bytes : List ℕ) (why other : CheckFault) → FirstCheckFault bytes why → FirstCheckFault bytes other → why ≡ other)
    (never_both : (bytes : List ℕ) (c : Progress) (why : CheckFault) → length bytes < 2 ^ 63 → CheckFile bytes c.bytes c.problem c.found c.jobs → FirstCheckFault bytes why → ⊥) where
  pub accepts : (r : Result Progress CheckFault) → MatchResult r (λ c. CheckFile bytes c.bytes c.problem c.found c.jobs) (OrNoMemory (FirstCheckFault bytes))
      → (c : Progress) → CheckFile bytes c.bytes c.problem c.found c.jobs → (r ≡ Ok c) ⊎ (r ≡ Err fault.NoMemory)
  accepts (Ok other) told c file = inl (ap Ok (one_checkpoint bytes other c few told file))
  accepts (Err why) (inl memory) c file = inr (ap Err memory)
  accepts (Err why) (inr first) c file = absurd (never_both bytes c why few file first)

  pub refuses : (r : Result Progress CheckFault) → MatchResult r (λ c. CheckFile bytes c.bytes c.problem c.found c.jobs) (OrNoMemory (FirstCheckFault bytes))
      → (why : CheckFault) → FirstCheckFault bytes why → (r ≡ Err why) ⊎ (r ≡ Err fault.NoMemory)
  refuses (Ok c) told why first = absurd (never_both bytes c why few told first)
  refuses (Err other) (inl memory) why first = inr (ap Err memory)
  refuses (Err other) (inr is) why first = inl (ap Err (one_fault bytes other why is first))
