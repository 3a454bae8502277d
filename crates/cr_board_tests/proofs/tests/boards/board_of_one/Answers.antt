use Rattle.std.proofs.Common.{sym, subst, arith}
use Rattle.cr_board.specs.Jobs.{IsOpening, opening_from}
use Rattle.cr_board.proofs.Openings.{one_job_opens}
use Rattle.cr_board_tests.proofs.tests.boards.board_of_one.Goals as goal

pub new-opening-requires : goal.new-opening-requires
new-opening-requires c =
    subst IsOpening (sym (λ i. opening_from (c.in_ok-copy.ensures i) (c.new.ensures.items i) (c.in_ok-jobs.ensures i) c.args.budget 3))
    (one_job_opens c.args.problem.now c.args.nodes.now c.args.budget 3 c.in_ok-check_job.ensures (omega arith) (omega arith))
