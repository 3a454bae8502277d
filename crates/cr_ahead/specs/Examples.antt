-- Moves by example.
use Rattle.std.specs.Prelude.{ℕ, true, false, List, [], ◌∷◌}
use Rattle.cr_ahead.specs.Moves.{MovesParts}

-- Three leads in a ring. A part ends at the first one. A plain lead has two changes and leads to the next place, a bob
-- has three and leads to the one after that. A plain lead home gains 5 and a bob home 4; no other lead gains
abbrev pub ring : MovesParts
ring = record {
  next = 1 ∷ 2 ∷ 2 ∷ 0 ∷ 0 ∷ 1 ∷ [];
  lengths = 2 ∷ 3 ∷ [];
  gains = 0 ∷ 0 ∷ 0 ∷ 4 ∷ 5 ∷ 0 ∷ [];
  ends = true ∷ false ∷ false ∷ [];
}

-- The lead heads of Plain Bob Minimus, and the moves from one to the next, for parts of one: a plain lead, a lead with a call that
-- comes round at once, and a plain lead of another method. A plain lead gains 1
abbrev pub minimus_heads : List (List ℕ)
minimus_heads = (1 ∷ 2 ∷ 3 ∷ 4 ∷ []) ∷ (1 ∷ 3 ∷ 4 ∷ 2 ∷ []) ∷ (1 ∷ 4 ∷ 2 ∷ 3 ∷ []) ∷ []

abbrev pub minimus_moves : MovesParts
minimus_moves = record {
  next = 1 ∷ 0 ∷ 1 ∷ 2 ∷ 1 ∷ 2 ∷ 0 ∷ 2 ∷ 0 ∷ [];
  lengths = 8 ∷ 8 ∷ 8 ∷ [];
  gains = 1 ∷ 0 ∷ 1 ∷ 1 ∷ 0 ∷ 1 ∷ 1 ∷ 0 ∷ 1 ∷ [];
  ends = true ∷ false ∷ false ∷ [];
}
