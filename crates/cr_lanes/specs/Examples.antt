-- A lane at work, and two lanes at their close.
use Rattle.std.specs.Prelude.{ℕ, false, List, [], ◌∷◌}
use Rattle.cr_lanes.specs.declared.known.Known.{Known}
use Rattle.cr_lanes.specs.Lane.{end, thief}
use Rattle.cr_lanes.specs.Ends.{LaneName, EndParts}
use Rattle.cr_lanes.specs.Thieves.{ThiefParts}

-- an end that put 1 to 4 and took 4, with so many passes out
abbrev pub end_of_four : List ℕ → ℕ → Known
end_of_four = end (1 ∷ 2 ∷ 3 ∷ 4 ∷ []) (4 ∷ [])

-- a pass that is back, and yet has a list
abbrev pub back_with : List ℕ → Known
back_with stolen = record (thief stolen) { is_out = false }

-- the end of a lane that put and took these
abbrev pub end_that : LaneName → List ℕ → List ℕ → EndParts
end_that name put taken = record { name = name; lane = 0; room = 4; lent = 2; put = put; taken = taken; gone = [] }

-- one end put 1 and 4 and took 4; the other put 2 and 3
abbrev pub two_ends : LaneName → List EndParts
two_ends name = end_that name (1 ∷ 4 ∷ []) (4 ∷ []) ∷ end_that name (2 ∷ 3 ∷ []) [] ∷ []

-- a thief that stole these
abbrev pub thief_with : List (List ℕ) → ThiefParts
thief_with stolen = record { names = []; stolen = stolen }
