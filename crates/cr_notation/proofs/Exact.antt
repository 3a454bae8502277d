-- What a text spells is read, and its first fault is told, but for want of memory.
use Rattle.std.proofs.Common.{◌≡◌, ◌≢◌, ◌⊎◌, ℕ, List, Result, Ok, Err, refl, inl, inr}
use Rattle.std.specs.Prelude.{IfOk, IfErr, MatchResult}
use Rattle.cr_row.specs.Rows.{Places}
use Rattle.cr_model.specs.declared.notation.NotationFault.{NotationFault}
use Rattle.cr_model.specs.declared.notation.NotationFault.TheVariants as fault
use Rattle.cr_model.specs.Notation.{Spells}
use Rattle.cr_model.specs.NotationFaults.{FirstFault}

-- a fault is want of memory, or another
memory_or_not : (why : NotationFault) → (why ≡ fault.NoMemory) ⊎ (why ≢ fault.NoMemory)
memory_or_not (fault.Symbol at) = inr (λ e. cc)
memory_or_not (fault.Above at) = inr (λ e. cc)
memory_or_not (fault.Order at) = inr (λ e. cc)
memory_or_not (fault.Gap at) = inr (λ e. cc)
memory_or_not (fault.CrossOnOdd at) = inr (λ e. cc)
memory_or_not (fault.Dot at) = inr (λ e. cc)
memory_or_not (fault.EmptyBlock at) = inr (λ e. cc)
memory_or_not (fault.SecondComma at) = inr (λ e. cc)
memory_or_not (fault.Long at) = inr (λ e. cc)
memory_or_not fault.NoMemory = inl refl

module _ {V : Type 0} (items : V → List Places) (n : ℕ) (text : List ℕ)
    (one_list : (one other : List Places) → Spells n text one → Spells n text other → one ≡ other)
    (one_fault : (one other : NotationFault) → FirstFault n text one → FirstFault n text other → one ≡ other)
    (never_both : (changes : List Places) (why : NotationFault) → Spells n text changes → FirstFault n text why → ⊥) where
  pub accepts : (r : Result V NotationFault) → IfOk r (λ v. Spells n text (items v)) → IfErr r (λ why. why ≢ fault.NoMemory → FirstFault n text why)
      → (changes : List Places) → Spells n text changes → MatchResult r (λ v. items v ≡ changes) (λ why. why ≡ fault.NoMemory)
  accepts (Ok v) read told changes spells = one_list (items v) changes read spells
  accepts (Err why) read told changes spells = elim (memory_or_not why) [ inl memory ↦ memory | inr other ↦ absurd (never_both changes why spells (told other)) ]

  pub refuses : (r : Result V NotationFault) → IfOk r (λ v. Spells n text (items v)) → IfErr r (λ why. why ≢ fault.NoMemory → FirstFault n text why)
      → (why : NotationFault) → FirstFault n text why → MatchResult r (λ v. ⊥) (λ told. (told ≡ why) ⊎ (told ≡ fault.NoMemory))
  refuses (Ok v) read told why first = never_both (items v) why read first
  refuses (Err other) read told why first = elim (memory_or_not other) [ inl memory ↦ inr memory | inr another ↦ inl (one_fault other why (told another) first) ]
