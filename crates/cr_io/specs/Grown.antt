-- Bytes that are appended to a sink.
use Rattle.std.specs.Prelude.{◌≡◌, ℕ, ◌<◌, ◌≤◌, ⊤, List, [], ◌++◌, length, take, flat_map}
use Rattle.std.specs.Prelude.{Option, Some, None, Result, IfOk, MatchResult}
use Rattle.std.specs.Global.{Vec}

-- told bytes grew by these; a sink that tells nothing tells nothing later
abbrev pub Grows : Option (List ℕ) → Option (List ℕ) → List ℕ → Type 0
Grows None None bytes = ⊤
Grows None (Some new) bytes = ⊥
Grows (Some old) None bytes = ⊤
Grows (Some old) (Some new) bytes = new ≡ old ++ bytes

-- where both tell their bytes, the new ones are the old ones and these
abbrev pub Shows : Option (List ℕ) → Option (List ℕ) → List ℕ → Type 0
Shows (Some old) (Some new) bytes = new ≡ old ++ bytes
Shows (Some old) None bytes = ⊤
Shows None new bytes = ⊤

-- a write appended the bytes that it took, and none where it failed
abbrev pub WriteGrows : {S E : Type 0} → (S → S → List ℕ → Type 0) → S → S → Result ℕ E → List ℕ → Type 0
WriteGrows grew old new result piece = MatchResult result (λ n. grew old new (take n piece)) (λ _. grew old new [])

-- at least one byte of a piece that has some, and none of an empty one
abbrev pub TakesSome : {E : Type 0} → Result ℕ E → List ℕ → Type 0
TakesSome result piece = IfOk result (λ n. (n ≤ length piece) × (0 < length piece → 1 ≤ n))

-- a front of the text was appended, and not the whole text
abbrev pub GrowsByFront : {S : Type 0} → (S → S → List ℕ → Type 0) → S → S → List ℕ → Type 0
GrowsByFront grew old new text = (n : ℕ) × (n < length text) × grew old new (take n text)

-- pieces one after another
abbrev pub joined : List (Vec ℕ) → List ℕ
joined pieces = flat_map (λ piece. piece.items) pieces
