use Rattle.std.proofs.Common.{sym, subst}
use Rattle.cr_board.specs.Jobs.{IsOpening, opening_from}
use Rattle.cr_hunter.proofs.Hunting.{both_open}
use Rattle.cr_hunter.proofs.openings.both_begun.Goals as goal

pub new-requires-2 : goal.new-requires-2
new-requires-2 c =
    subst IsOpening (sym (λ i. opening_from (c.in_ok-problem.ensures i) (c.new.ensures.items i) (c.in_ok-jobs.ensures i) c.args.budget c.args.workers))
    (both_open c.args.budget c.args.workers c.requires.some c.requires.few)
