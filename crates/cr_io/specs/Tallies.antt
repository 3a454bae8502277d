-- What an adapter over a reader or a writer counts, and what it answers.
use Rattle.std.specs.Prelude.{◌≡◌, ℕ, ◌+◌, ◌-◌, ◌^◌, ◌<◌, ◌≤◌, min, List, length, Option}
use Rattle.std.specs.Prelude.{Result, Ok, IsErr, MatchResult}
use Rattle.std.specs.Io.KnownBytes.{Appends, Consumes}

-- a count is given on where it is at least the least; a lesser one, and an error, is a failed call
abbrev pub Answers : {E F : Type 0} → ℕ → Result ℕ E → Result ℕ F → Type 0
Answers least answer result =
    MatchResult answer (λ n. (least ≤ n → result ≡ Ok n) × (n < least → IsErr result)) (λ _. IsErr result)

-- so many bytes more were counted, up to a `u64`'s last value
abbrev pub Counted : ℕ → ℕ → ℕ → Type 0
Counted before now bytes = min now (2 ^ 64 - 1) ≡ min (before + bytes) (2 ^ 64 - 1)

-- the bytes of a call that did not fail were counted
abbrev pub CountsBytes : {E : Type 0} → ℕ → ℕ → Result ℕ E → Type 0
CountsBytes before now result = MatchResult result (λ n. now ≡ min (before + n) (2 ^ 64 - 1)) (λ _. now ≡ before)

-- bytes were taken from those that a reader tells, and counted
abbrev pub Gave : Option (List ℕ) → Option (List ℕ) → ℕ → ℕ → List ℕ → Type 0
Gave left now before after bytes = Consumes left now bytes × Counted before after (length bytes)

-- bytes were appended to those that a writer tells, and counted
abbrev pub Took : Option (List ℕ) → Option (List ℕ) → ℕ → ℕ → List ℕ → Type 0
Took told now before after bytes = Appends told now bytes × Counted before after (length bytes)
