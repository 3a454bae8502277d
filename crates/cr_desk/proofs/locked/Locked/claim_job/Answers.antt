use Rattle.std.proofs.Common.{sym, subst}
use Rattle.cr_node.specs.Work.{IsJob}
use Rattle.cr_board.specs.Choices.{next_answer, IfClaimed}
use Rattle.cr_desk.specs.Asks.{EndsWork, IfEnded}
use Rattle.cr_desk.proofs.Claims.{claim_ended}
use Rattle.cr_desk.proofs.locked.Locked.claim_job.Goals as goal

pub returns-clause-ended : goal.returns-clause-ended
returns-clause-ended g c =
    let before = c.args.self.now.board in
    subst (λ answer. IfEnded answer (EndsWork (next_answer before c.args.worker))) (sym c.in_ok-claimed.ensures.answer) (claim_ended before c.args.worker c.args.number)

pub returns-clause-job : goal.returns-clause-job
returns-clause-job g c =
    let before = c.args.self.now.board in
    subst (λ answer. IfClaimed answer (λ ticket. IsJob before.opening.problem ticket.nodes)) (sym c.in_ok-claimed.ensures.answer)
    (c.a_ticket_has_a_job.ensures.claimed before c.args.worker c.args.number c.journal.ensures.kept.partition)
