-- Checkpoints that are taken out of what is left of a trail.
use Rattle.std.specs.Prelude.{◌≡◌, ℕ, ◌≤◌, List, [], ◌∷◌, length, take, drop, Ok}
use Rattle.cr_store.specs.Blocks.{blocks}
use Rattle.cr_trail.specs.Lasts.{IsLast}
use Rattle.cr_trail.specs.Trails.{IsTrail}

-- the text is the last whole body of so many of the first bytes of the blocks of a trail of the input
pub record IsTakenFrom (input text : List ℕ) : Type 0 where
  pub every : ℕ
  pub trail : List (List ℕ)
  pub is_trail : IsTrail input every trail
  pub many : ℕ
  pub short : many ≤ length (blocks trail)
  pub place : ℕ
  pub size : ℕ
  pub last : IsLast (take many (blocks trail)) (Ok (place, size))
  pub is : text ≡ take size (drop place (take many (blocks trail)))

-- each text is taken from a trail of the one before it
abbrev pub AreTaken : List ℕ → List (List ℕ) → Type 0
AreTaken text [] = Unit {0}
AreTaken text (next ∷ texts) = IsTakenFrom text next × AreTaken next texts
