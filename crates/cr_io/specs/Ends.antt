-- How reading a source whole ends.
use Rattle.std.specs.Prelude.{◌≡◌, ℕ, ◌<◌, ◌≤◌, ⊤, List, [], length, Option, Some, None, Result, Ok, Err, Vec}
use Rattle.std.specs.declared.alloc.Global.{Global}
use Rattle.std.specs.Io.KnownBytes.{IsAtEnd}
use Rattle.cr_io.specs.declared.reading.ReadEnd.{ReadEnd}
use Rattle.cr_io.specs.declared.reading.ReadEnd.TheVariants as end

-- bytes were taken, at most so many
abbrev pub TookAtMost : {S : Type 0} → (S → S → List ℕ → Type 0) → S → S → ℕ → Type 0
TookAtMost took old new limit = (taken : List ℕ) × took old new taken × (length taken ≤ limit)

-- bytes were taken, more than so many
abbrev pub TookMore : {S : Type 0} → (S → S → List ℕ → Type 0) → S → S → ℕ → Type 0
TookMore took old new limit = (taken : List ℕ) × took old new taken × (limit < length taken)

-- Ok gives the bytes that were taken; TooLong comes exactly where these were more than the limit
abbrev pub TakesWithin : {S : Type 0} → (S → S → List ℕ → Type 0) → S → S → ℕ
    → Result (Vec ℕ Global) ReadEnd → Type 0
TakesWithin took old new limit (Ok bytes) = took old new bytes.items × (length bytes.items ≤ limit)
TakesWithin took old new limit (Err end.TooLong) = TookMore took old new limit
TakesWithin took old new limit (Err end.ReadFault) = TookAtMost took old new limit
TakesWithin took old new limit (Err end.NoMemory) = TookAtMost took old new limit

-- the count of faults is as it was, but where a read failed
abbrev pub KeepsFaults : ℕ → ℕ → Result (Vec ℕ Global) ReadEnd → Type 0
KeepsFaults before now (Ok bytes) = now ≡ before
KeepsFaults before now (Err end.TooLong) = now ≡ before
KeepsFaults before now (Err end.NoMemory) = now ≡ before
KeepsFaults before now (Err end.ReadFault) = ⊤

-- of a source that tells its bytes, Ok gives all that were left,
-- and TooLong comes only where more than the limit were left
abbrev pub ReadsAll : Option (List ℕ) → Option (List ℕ) → ℕ → Result (Vec ℕ Global) ReadEnd → Type 0
ReadsAll None new limit (Ok bytes) = IsAtEnd new
ReadsAll (Some left) new limit (Ok bytes) = (new ≡ Some []) × (bytes.items ≡ left) × (length left ≤ limit)
ReadsAll (Some left) new limit (Err end.TooLong) = limit < length left
ReadsAll None new limit (Err e) = ⊤
ReadsAll (Some left) new limit (Err end.ReadFault) = ⊤
ReadsAll (Some left) new limit (Err end.NoMemory) = ⊤
