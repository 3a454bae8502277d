-- Turns of a loop that takes bytes.
use Rattle.std.specs.Prelude.{ℕ, ◌+◌, ◌*◌, ◌≤◌, List, length, Result, Ok, Err, Vec}
use Rattle.std.specs.declared.alloc.Global.{Global}
use Rattle.cr_io.specs.declared.reading.ReadEnd.{ReadEnd}

-- at most one turn more than bytes, and at most 4,096 bytes a turn
abbrev pub IsPaced : ℕ → List ℕ → Type 0
IsPaced turns taken = (turns ≤ length taken + 1) × (length taken ≤ 4096 * turns)

-- the bytes were taken in so many turns
abbrev pub TakesInTurns : {S : Type 0} → (S → S → List ℕ → Type 0) → S → S → ℕ → Result (Vec ℕ Global) ReadEnd → Type 0
TakesInTurns took old new turns (Ok bytes) = IsPaced turns bytes.items
TakesInTurns took old new turns (Err e) = (taken : List ℕ) × took old new taken × IsPaced turns taken
