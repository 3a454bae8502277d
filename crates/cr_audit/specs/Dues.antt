-- The nodes that are due, told by the first of them.
use Rattle.std.specs.Prelude.{ℕ, ◌+◌, ◌-◌, Bool, true, false, List, [], ◌∷◌, ◌++◌, length, map}
use Rattle.std.specs.List.{range_with_len}
use Rattle.cr_model.specs.Problems.{ProblemParts}
use Rattle.cr_model.specs.Sizes.{child}
use Rattle.cr_audit.specs.declared.verdict.Verdict.{Verdict}
use Rattle.cr_audit.specs.declared.verdict.Verdict.TheVariants as verdict

-- what comes after a node and all below it, where the node is some steps below another: for each of these steps, the
-- last first, the nodes that have a greater one in its place
abbrev pub later_below : ProblemParts → List ℕ → List ℕ → List (List ℕ)
later_below p above [] = []
later_below p above (step ∷ steps) =
    later_below p (above ++ step ∷ []) steps ++ map (child above) (range_with_len (step + 1) (length p.leads - (step + 1)))

abbrev pub later : ProblemParts → List ℕ → List (List ℕ)
later p node = later_below p [] node

-- all that is due, where this node is the first, if any is
abbrev pub dues : ProblemParts → Bool → List ℕ → List (List ℕ)
dues p true node = node ∷ later p node
dues p false node = []

-- the verdict opens its node
abbrev pub is_open : Verdict → Bool
is_open verdict.Open = true
is_open verdict.Long = false
is_open (verdict.Again i j) = false
is_open (verdict.Home i) = false
is_open (verdict.Many of) = false
is_open (verdict.Few of) = false
is_open (verdict.Back k) = false
