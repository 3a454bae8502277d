-- the power of the head, and none so far was rounds
use Rattle.std.proofs.Common.{◌≡◌, ℕ, ◌<◌, ◌≤◌, false, length}
use Rattle.cr_ahead.specs.Home.{power, is_round_after}
use Rattle.cr_ahead.proofs.ends.is_end.Given as goal

abbrev pub invariant-loop-passed : goal.invariant-loop-passed
invariant-loop-passed l = record {
  is : l.power ≡ power l.problem.stage l.head l.passed;
  staged : length l.power ≡ l.problem.stage;
  none : (fewer : ℕ) → 0 < fewer → fewer ≤ l.passed → is_round_after l.problem l.head fewer ≡ false;
}
