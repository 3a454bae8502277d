use Rattle.std.proofs.Common.{sym, subst}
use Rattle.cr_node.specs.Work.{IsJob}
use Rattle.cr_board.specs.Choices.{IfJob}
use Rattle.cr_desk.proofs.locked.Locked.next_job.Goals as goal

pub returns-clause-job : goal.returns-clause-job
returns-clause-job g c =
    let before = c.args.self.now.board in
    subst (λ answer. IfJob answer (λ ticket. IsJob before.opening.problem ticket.nodes)) (sym c.in_ok-taken.ensures.answer)
    (c.a_ticket_has_a_job.ensures.next before c.args.worker c.journal.ensures.kept.partition)
