-- One turn of a search on a node: its touch is found, if that is kept, and its live children are left.
use Rattle.std.specs.Prelude.{ℕ, cond, List, [], ◌∷◌}
use Rattle.cr_model.specs.Problems.{ProblemParts}
use Rattle.cr_model.specs.Queries.{repeated}
use Rattle.cr_model.specs.Decided.{is_kept}
use Rattle.cr_model.specs.Dead.{parts_of}

-- the node, as often as the query has parts
abbrev pub touch_of : ProblemParts → List ℕ → List ℕ
touch_of p node = repeated (parts_of p) node

-- that touch alone, if it is kept
abbrev pub touch_found : ProblemParts → List ℕ → List (List ℕ)
touch_found p node = cond (is_kept p (touch_of p node)) (touch_of p node ∷ []) []
