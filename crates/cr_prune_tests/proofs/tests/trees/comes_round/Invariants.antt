use Rattle.std.proofs.Common.{◌≡◌}
use Rattle.cr_model.specs.Callings.{head_of}
use Rattle.cr_model.specs.Queries.{repeated}
use Rattle.cr_prune_tests.proofs.tests.trees.comes_round.Given as goal

abbrev pub invariant-loop-part : goal.invariant-loop-part
invariant-loop-part l = l.row ≡ head_of l.problem (repeated l._part l.walk.node)
