-- The one spelling that is written.
use Rattle.std.specs.Prelude.{ℕ, List, [], ◌∷◌, ◌++◌, map}
use Rattle.cr_row.specs.Rows.{Places}
use Rattle.cr_row.specs.Symbols.{symbol_of}

-- a change: x if it makes no places, else all of them
abbrev pub places_text : List ℕ → List ℕ
places_text [] = 120 ∷ []
places_text (p ∷ ps) = map symbol_of (p ∷ ps)

-- a dot between two changes with places, and nowhere else
abbrev pub dot_between : List ℕ → List ℕ → List ℕ
dot_between [] next = []
dot_between (p ∷ ps) [] = []
dot_between (p ∷ ps) (q ∷ qs) = 46 ∷ []

-- the changes in order, without a comma
abbrev pub canonical_text : List Places → List ℕ
canonical_text [] = []
canonical_text (change ∷ []) = places_text change.made
canonical_text (change ∷ next ∷ changes) =
    (places_text change.made ++ dot_between change.made next.made) ++ canonical_text (next ∷ changes)
