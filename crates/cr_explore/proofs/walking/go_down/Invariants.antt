use Rattle.std.proofs.Common.{◌≡◌}
use Rattle.cr_model.specs.Sizes.{most_rows}
use Rattle.cr_explore.specs.Stacks.{first_live}
use Rattle.cr_explore.proofs.walking.go_down.Given as goal

abbrev pub invariant-loop-step : goal.invariant-loop-step
invariant-loop-step l = record {
  walk : l.walk ≡ l.initial.walk;
  first : first_live l.initial.walk.problem most_rows l.initial.walk.node l.from ≡ first_live l.initial.walk.problem most_rows l.initial.walk.node l.step;
}
