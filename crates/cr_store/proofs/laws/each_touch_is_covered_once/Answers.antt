use Rattle.cr_model.specs.Checkpoints.{nodes_of_jobs}
use Rattle.cr_store.proofs.laws.each_touch_is_covered_once.Goals as goal

pub returns : goal.returns
returns c = λ p found jobs goes calling. c.each_touch_stands_once.ensures.at_first p found (nodes_of_jobs jobs) calling goes.ascending goes.independent
