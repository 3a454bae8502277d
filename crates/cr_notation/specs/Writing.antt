-- Writing change by change.
use Rattle.std.specs.Prelude.{ℕ, Bool, true, false, cond, ◌&&◌, nat_lt, List, [], ◌∷◌, ◌++◌}
use Rattle.cr_row.specs.Rows.{Places}
use Rattle.cr_model.specs.NotationTexts.{canonical_text}

-- some place is made
abbrev pub has_places : List ℕ → Bool
has_places [] = false
has_places (p ∷ ps) = true

-- a dot where one is needed
abbrev pub dot_if : Bool → List ℕ
dot_if needed = cond needed (46 ∷ []) []

-- the places from p on
abbrev pub at_least : ℕ → List ℕ → List ℕ
at_least p [] = []
at_least p (q ∷ qs) = cond (nat_lt q p) (at_least p qs) (q ∷ qs)

-- what is written after a change, with or without places
abbrev pub text_after : Bool → List Places → List ℕ
text_after some [] = []
text_after some (change ∷ changes) = dot_if (some && has_places change.made) ++ canonical_text (change ∷ changes)
