use Rattle.cr_path.specs.Sets.{AreSeen}
use Rattle.cr_path.proofs.walks.path.Path.judge_children.Given as goal

abbrev pub invariant-loop-step : goal.invariant-loop-step
invariant-loop-step g l = AreSeen l.self.problem l.self.node l.step l.uncut
