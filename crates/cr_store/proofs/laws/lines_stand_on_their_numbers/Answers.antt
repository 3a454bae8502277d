use Rattle.cr_store.proofs.LinesStand.{touch_stands, node_stands}
use Rattle.cr_store.proofs.laws.lines_stand_on_their_numbers.Goals as goal

pub returns-clause-touches : goal.returns-clause-touches
returns-clause-touches c = λ text s has i inside. touch_stands text s has i inside

pub returns-clause-nodes : goal.returns-clause-nodes
returns-clause-nodes c = λ text s has i inside. node_stands text s has i inside
