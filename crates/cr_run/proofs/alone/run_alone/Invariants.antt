use Rattle.cr_model.specs.Sizes.{most_rows, size_of_all}
use Rattle.cr_board.specs.Boards.{nodes_of}
use Rattle.cr_run.proofs.Playing.{IsGoing}
use Rattle.cr_run.proofs.alone.run_alone.Given as goal

abbrev pub invariant-loop-alloc : goal.invariant-loop-alloc
invariant-loop-alloc g l = IsGoing l.initial.board l.board

abbrev pub decreases-loop-alloc : goal.decreases-loop-alloc
decreases-loop-alloc g l = size_of_all l.board.opening.problem most_rows (nodes_of l.board)
