use Rattle.std.proofs.Common.{ℕ, ◌<◌}
use Rattle.cr_model.specs.Callings.{rows_of}
use Rattle.cr_model.specs.Decided.{rotated}
use Rattle.cr_model.specs.Touches.{IsLess}
use Rattle.cr_query.specs.Meeting.{MeetsByRows}
use Rattle.cr_path.proofs.numbers.rotated_patterns.none_is_better.Given as goal

abbrev pub invariant-loop-by : goal.invariant-loop-by
invariant-loop-by l = (k : ℕ) → 0 < k → k < l.by → IsLess (rotated k l.calling) l.calling → MeetsByRows l.problem (rows_of l.problem (rotated k l.calling)) → ⊥
