-- What a call leaves of a text that it writes.
use Rattle.std.specs.Prelude.{ℕ, ◌≤◌, List, length, take, Result, OnOk, OnErr}
use Rattle.cr_io.specs.Causes.{Rose}
use Rattle.cr_io.specs.Grown.{GrowsByFront}

-- the text was appended whole; where the call failed, a front of it was, and the count of faults rose
pub record IsWritten {S T E : Type 0} (grew : S → S → List ℕ → Type 0) (faults : S → ℕ)
    (old new : S) (result : Result T E) (text : List ℕ) : Type 0 where
  pub whole : OnOk result (grew old new text)
  pub front : OnErr result (GrowsByFront grew old new text)
  pub fault : OnErr result (Rose (faults old) (faults new))
  pub later : faults old ≤ faults new

-- a front of the text was appended, which may be the whole of it
abbrev pub AppendsFront : {S : Type 0} → (S → S → List ℕ → Type 0) → S → S → List ℕ → Type 0
AppendsFront grew old new text = (n : ℕ) × (n ≤ length text) × grew old new (take n text)
