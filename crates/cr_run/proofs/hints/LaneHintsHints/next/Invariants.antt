use Rattle.std.proofs.Common.{◌≡◌, ◌<◌, ◌≤◌, length}
use Rattle.cr_run.specs.Keys.{lane_key}
use Rattle.cr_run.proofs.hints.LaneHintsHints.next.Given as goal

abbrev pub invariant-loop-step : goal.invariant-loop-step
invariant-loop-step g l = (lane_key l.self.lanes.now l.self.end l.self.thief ≡ lane_key l.fn.self.lanes.now l.fn.self.end l.fn.self.thief) × (l.workers ≡ length l.self.lanes.now) × (l.workers ≤ 64) × (l.own < l.workers)
