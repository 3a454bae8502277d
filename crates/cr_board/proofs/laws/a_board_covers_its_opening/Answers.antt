use Rattle.std.proofs.Common.{◌↔◌, subst}
use Rattle.cr_model.specs.Nodes.{Covers}
use Rattle.cr_board.specs.Jobs.{opening_nodes}
use Rattle.cr_board.specs.Boards.{nodes_of}
use Rattle.cr_board.proofs.Covering.{covers_same, no_nodes, finished_size}
use Rattle.cr_board.proofs.laws.a_board_covers_its_opening.Goals as goal

pub returns-clause-covers : goal.returns-clause-covers
returns-clause-covers c = λ b calling part.
    covers_same c.covers_are_counted.ensures b.opening.problem b.opening.found (opening_nodes b.opening) b.found (nodes_of b) b.spent part.nodes calling

pub returns-clause-finished : goal.returns-clause-finished
returns-clause-finished c = λ b calling part none.
    subst (λ nodes. Covers b.opening.problem b.found nodes calling ↔ Covers b.opening.problem b.opening.found (opening_nodes b.opening) calling) (no_nodes b none)
    (covers_same c.covers_are_counted.ensures b.opening.problem b.opening.found (opening_nodes b.opening) b.found (nodes_of b) b.spent part.nodes calling)

pub returns-clause-size : goal.returns-clause-size
returns-clause-size c = finished_size
