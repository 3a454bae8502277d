use Rattle.std.proofs.Common.{◌≡◌, ◌≤◌, ◌-◌, length}
use Rattle.cr_model.specs.Sizes.{most_rows}
use Rattle.cr_explore.specs.Passing.{IsSplitSoFar}
use Rattle.cr_explore.specs.Stacks.{place_at, stack_of, IsPlace}
use Rattle.cr_explore.proofs.all_touches.find_all.Given as goal

abbrev pub invariant-loop-used : goal.invariant-loop-used
invariant-loop-used g l = record {
  few : l.used ≤ l.turns;
  problem : g.P.Path.problem_of l.path ≡ g.P.Path.problem_of l.initial.path;
  place : IsPlace (g.P.Path.problem_of l.path) (place_at 0 l.base (g.P.Path.next_of l.path)) (g.P.Path.node_of l.path);
  left : l.left ≤ length l.job;
  so_far : IsSplitSoFar (g.P.Path.problem_of l.initial.path) l.job l.found.items (stack_of (g.P.Path.problem_of l.initial.path) most_rows l.job (place_at l.left l.base (g.P.Path.next_of l.path)) (g.P.Path.node_of l.path)) l.used;
}

abbrev pub decreases-loop-used : goal.decreases-loop-used
decreases-loop-used g l = l.turns - l.used
