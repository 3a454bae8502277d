use Rattle.std.proofs.Common.{◌≡◌, ℕ, ◌-◌, ◌<◌, ◌≤◌, false, length}
use Rattle.cr_model.specs.Sizes.{most_rows}
use Rattle.cr_path.specs.Living.{is_live}
use Rattle.cr_path.specs.Walks.{path_from}
use Rattle.cr_path.proofs.walks.path.Path.go_down.Given as goal

abbrev pub invariant-loop-step : goal.invariant-loop-step
invariant-loop-step g l = record {
  walk : l.self ≡ path_from l.fn.self.problem l.fn.self.numbers l.fn.self.node l.self.next;
  from : l.fn.self.next ≤ l.self.next;
  within : l.self.next ≤ length l.fn.self.problem.leads;
  dead : (step : ℕ) → l.fn.self.next ≤ step → step < l.self.next → is_live l.fn.self.problem most_rows l.fn.self.node step ≡ false;
}

abbrev pub decreases-loop-step : goal.decreases-loop-step
decreases-loop-step g l = length l.fn.self.problem.leads - l.self.next
