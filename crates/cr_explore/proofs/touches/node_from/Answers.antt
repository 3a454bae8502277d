-- A valid node has few steps.
use Rattle.cr_explore.proofs.Short.{node_is_short}
use Rattle.cr_explore.proofs.touches.node_from.Goals as goal

pub from_slice-requires : goal.from_slice-requires
from_slice-requires c = node_is_short c.args.problem.now c.args.steps.now c.stage-problem.ensures.sound c.requires
