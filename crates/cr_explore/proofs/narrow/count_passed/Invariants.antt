use Rattle.std.proofs.Common.{◌≡◌}
use Rattle.cr_explore.proofs.narrow.count_passed.Given as goal

abbrev pub invariant-loop-node : goal.invariant-loop-node
invariant-loop-node g l = g.P.Path.problem_of l.path ≡ g.P.Path.problem_of l.fn.path
