use Rattle.std.proofs.Common.{◌≡◌, List, ℕ, [], ◌++◌, reverse, length}
use Rattle.cr_model.specs.Sizes.{most_rows}
use Rattle.cr_explore.specs.Stacks.{place_at, stack_of, IsPlace}
use Rattle.cr_explore.proofs.search.take_path.Given as goal

abbrev pub invariant-loop-alloc : goal.invariant-loop-alloc
invariant-loop-alloc g l = record {
  problem : g.P.Path.problem_of l.path ≡ g.P.Path.problem_of l.initial.path;
  place : IsPlace (g.P.Path.problem_of l.path) (place_at 0 l.base (g.P.Path.next_of l.path)) (g.P.Path.node_of l.path);
  nodes : (left : ℕ) (job : List (List ℕ))
      → stack_of (g.P.Path.problem_of l.initial.path) most_rows job (place_at left l.base (g.P.Path.next_of l.initial.path)) (g.P.Path.node_of l.initial.path) ++ reverse l.initial.nodes.items
      ≡ stack_of (g.P.Path.problem_of l.initial.path) most_rows job (place_at left l.base (g.P.Path.next_of l.path)) (g.P.Path.node_of l.path) ++ reverse l.nodes.items;
}

abbrev pub decreases-loop-alloc : goal.decreases-loop-alloc
decreases-loop-alloc g l = length (stack_of (g.P.Path.problem_of l.path) most_rows [] (place_at 0 l.base (g.P.Path.next_of l.path)) (g.P.Path.node_of l.path))
