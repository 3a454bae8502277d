use Rattle.std.proofs.Common.{◌≡◌, List, ℕ, length}
use Rattle.cr_model.specs.Sizes.{most_rows}
use Rattle.cr_explore.specs.Stacks.{place_at, stack_of, IsPlace}
use Rattle.cr_explore.proofs.search.descend.Given as goal

abbrev pub invariant-loop-path : goal.invariant-loop-path
invariant-loop-path g l = record {
  problem : g.P.Path.problem_of l.path ≡ g.P.Path.problem_of l.initial.path;
  place : IsPlace (g.P.Path.problem_of l.path) (place_at 0 l.base (g.P.Path.next_of l.path)) (g.P.Path.node_of l.path);
  stack : (left : ℕ) (job : List (List ℕ)) → stack_of (g.P.Path.problem_of l.initial.path) most_rows job (place_at left l.base (g.P.Path.next_of l.initial.path)) (g.P.Path.node_of l.initial.path)
      ≡ stack_of (g.P.Path.problem_of l.initial.path) most_rows job (place_at left l.base (g.P.Path.next_of l.path)) (g.P.Path.node_of l.path);
}

abbrev pub decreases-loop-path : goal.decreases-loop-path
decreases-loop-path g l = length (g.P.Path.node_of l.path)
