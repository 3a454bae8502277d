use Rattle.std.proofs.Common.{◌≡◌}
use Rattle.std.specs.Prelude.{All}
use Rattle.cr_explore.specs.Searches.{searched}
use Rattle.cr_node.specs.Work.{Work}
use Rattle.cr_top.proofs.narrow.trials_of.Given as goal

abbrev pub invariant-loop-index : goal.invariant-loop-index
invariant-loop-index l = All (λ (done : Work). done.problem ≡ searched l.search) l.trials.items
