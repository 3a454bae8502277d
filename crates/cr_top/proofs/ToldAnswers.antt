-- What a call ends with, by what its status says of an input that was told.
use Rattle.std.proofs.Common.{◌≡◌, ℕ, ◌^◌, ◌<◌, ◌≤◌, ◌⊎◌, List, length, inl, inr, sym, ◌∙◌, arith}
use Rattle.cr_top.specs.declared.status.Status.{Status}
use Rattle.cr_top.specs.declared.status.Status.TheVariants as ended

-- what a status says of an input: where a text was written or cut off, that one belongs to it, and else why there is none
abbrev pub Tells : List ℕ → Type 0 → (Status → Type 0) → Status → Type 0
Tells input Yes No status = (((status ≡ ended.Finished) ⊎ (status ≡ ended.WriteFault)) × ((length input ≤ 2 ^ 40) × Yes))
    ⊎ (((status ≡ ended.TooLong) × (2 ^ 40 < length input)) ⊎ ((status ≡ ended.NoMemory) ⊎ ((length input ≤ 2 ^ 40) × No status)))

-- the refusal that an input is due
abbrev pub IsOwed : List ℕ → (Status → Type 0) → Status → Type 0
IsOwed input No due = ((due ≡ ended.TooLong) × (2 ^ 40 < length input)) ⊎ ((length input ≤ 2 ^ 40) × No due)

module _ (input : List ℕ) (Yes : Type 0) (No : Status → Type 0) (never : (status : Status) → Yes → No status → ⊥) (status : Status) where
  pub told_finished : Yes → length input ≤ 2 ^ 40 → (status ≡ ended.WriteFault → ⊥) → Tells input Yes No status
      → (status ≡ ended.Finished) ⊎ (status ≡ ended.NoMemory)
  told_finished has short writes (inl (inl is, more)) = inl is
  told_finished has short writes (inl (inr is, more)) = absurd (writes is)
  told_finished has short writes (inr (inl long)) = absurd (omega (arith, short, long.1))
  told_finished has short writes (inr (inr (inl is))) = inr is
  told_finished has short writes (inr (inr (inr lacks))) = absurd (never status has lacks.1)

  pub told_refused : ((one other : Status) → No one → No other → one ≡ other) → (due : Status) → IsOwed input No due → Tells input Yes No status
      → (status ≡ due) ⊎ (status ≡ ended.NoMemory)
  told_refused one due (inl long) (inl has) = absurd (omega (arith, long.1, has.1.0))
  told_refused one due (inl long) (inr (inl also)) = inl (also.0 ∙ sym long.0)
  told_refused one due (inl long) (inr (inr (inl is))) = inr is
  told_refused one due (inl long) (inr (inr (inr lacks))) = absurd (omega (arith, long.1, lacks.0))
  told_refused one due (inr lacks) (inl has) = absurd (never due has.1.1 lacks.1)
  told_refused one due (inr lacks) (inr (inl long)) = absurd (omega (arith, long.1, lacks.0))
  told_refused one due (inr lacks) (inr (inr (inl is))) = inr is
  told_refused one due (inr lacks) (inr (inr (inr also))) = inl (one status due also.1 lacks.1)
