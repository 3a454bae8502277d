-- Pruners, as contracts see them, and what is known of a child before its last lead is rung.
use Rattle.std.specs.Prelude.{ℕ, Bool, ◌||◌, List}
use Rattle.cr_model.specs.Problems.{ProblemParts}
use Rattle.cr_model.specs.Dead.{is_long, is_self_false, is_far, is_turned_back}
use Rattle.cr_reach.specs.Tables.{ReachParts}
use Rattle.cr_query.specs.Meters.{is_hopeless_by_leads}

-- the problem and its reach table
pub record PrunerParts : Type 0 where
  pub problem : ProblemParts
  pub reach : ReachParts

abbrev pub pruner_from : ProblemParts → ReachParts → PrunerParts
pruner_from p reach = record { problem = p; reach = reach }

-- a reason to be dead holds of the node that needs no row of it but its head: it is too long, its last lead is false
-- in itself, rounds is too far, its leads are too many or too few, or it turns back
abbrev pub dies_unrung : ProblemParts → ℕ → List ℕ → Bool
dies_unrung p most node =
    is_long p node || (is_self_false p node || (is_hopeless_by_leads p node || (is_turned_back p node || is_far p most node)))
