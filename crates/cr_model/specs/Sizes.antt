-- How many nodes a whole search of a node takes.
use Rattle.std.specs.Prelude.{ℕ, zero, suc, ◌+◌, List, [], ◌∷◌, ◌++◌, length, map, filter, sum_by, is_none}
use Rattle.std.specs.List.{range_with_len}
use Rattle.cr_model.specs.Problems.{ProblemParts}
use Rattle.cr_model.specs.Dead.{remaining_of, dead}

-- how many rows the levels that the search looks at may have
unfoldable pub most_rows : ℕ
most_rows = 200000

-- a node with one step more
abbrev pub child : List ℕ → ℕ → List ℕ
child node step = node ++ step ∷ []

abbrev pub children : ProblemParts → List ℕ → List (List ℕ)
children p node = map (child node) (range_with_len 0 (length p.leads))

-- the children that are not dead
abbrev pub live_children : ProblemParts → ℕ → List ℕ → List (List ℕ)
live_children p most node = filter (λ next. is_none (dead p most next)) (children p node)

-- one, and the sizes of the children that are not dead, where no node is more than so many changes longer
unfoldable pub size_within : ProblemParts → ℕ → ℕ → List ℕ → ℕ
size_within p most zero node = 1
size_within p most (suc changes) node = 1 + sum_by (size_within p most changes) (live_children p most node)

-- the size of a valid node: one, and the sizes of its children that are not dead
abbrev pub size : ProblemParts → ℕ → List ℕ → ℕ
size p most node = size_within p most (remaining_of p node) node

-- the size of some nodes
abbrev pub size_of_all : ProblemParts → ℕ → List (List ℕ) → ℕ
size_of_all p most nodes = sum_by (size p most) nodes
