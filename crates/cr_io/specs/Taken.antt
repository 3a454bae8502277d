-- Bytes that are taken from a source.
use Rattle.std.specs.Prelude.{ℕ, List, [], take, Result, MatchResult}

-- a read took the bytes that it gave, and none where it failed
abbrev pub ReadTakes : {S E : Type 0} → (S → S → List ℕ → Type 0) → S → S → Result ℕ E → List ℕ → Type 0
ReadTakes took old new result buf = MatchResult result (λ n. took old new (take n buf)) (λ _. took old new [])
