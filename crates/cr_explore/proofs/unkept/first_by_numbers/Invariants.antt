use Rattle.std.proofs.Common.{◌≡◌, ℕ, ◌<◌, [], get_or}
use Rattle.cr_model.specs.Touches.{Kept}
use Rattle.cr_explore.proofs.unkept.first_by_numbers.Given as goal

abbrev pub invariant-loop-index : goal.invariant-loop-index
invariant-loop-index g l = record {
  same : l.walk.problem ≡ l.problem;
  kept : (i : ℕ) → i < l.index → Kept l.problem (get_or l.touches i []);
}
