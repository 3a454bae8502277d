-- A search, turn by turn: what was found, which nodes are left, and how many turns were taken.
use Rattle.std.specs.Prelude.{ℕ, zero, suc, ◌+◌, List, [], ◌∷◌, ◌++◌, reverse}
use Rattle.cr_model.specs.Problems.{ProblemParts}
use Rattle.cr_model.specs.Sizes.{live_children}
use Rattle.cr_model.specs.OneTurn.{touch_found}

-- a search so far: the last of the nodes that are left is the next one
pub record Searched : Type 0 where
  pub found : List (List ℕ)
  pub rest : List (List ℕ)
  pub used : ℕ

-- nothing was explored yet
abbrev pub begun : List (List ℕ) → Searched
begun job = record { found = []; rest = job; used = 0 }

-- after a turn, where the nodes that are left are told from the last one on: the last is taken off, its touch is found, if that is kept, and its live children are put on, the greatest step first, so that the least step is the next one
abbrev pub taken : ProblemParts → ℕ → Searched → List (List ℕ) → Searched
taken p most so_far [] = so_far
taken p most so_far (node ∷ below) = record {
  found = so_far.found ++ touch_found p node;
  rest = reverse below ++ reverse (live_children p most node);
  used = so_far.used + 1;
}

unfoldable pub one_turn : ProblemParts → ℕ → Searched → Searched
one_turn p most so_far = taken p most so_far (reverse so_far.rest)

-- after so many turns, or fewer where no node is left then
unfoldable pub after_turns : ProblemParts → ℕ → List (List ℕ) → ℕ → Searched
after_turns p most job zero = begun job
after_turns p most job (suc number) = one_turn p most (after_turns p most job number)
