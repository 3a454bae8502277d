use Rattle.std.proofs.Common.{sym, ap, ◌∙◌, subst}
use Rattle.cr_node.specs.Work.{IsJob}
use Rattle.cr_board.proofs.Moving.{is_job}
use Rattle.cr_board.proofs.board.Board.work.Goals as goal

pub explore-requires : goal.explore-requires
explore-requires g c =
    subst (λ p. IsJob p c.deref.result.now) (sym c.requires)
    (subst (IsJob c.args.self.now.opening.problem) (sym (ap (λ job. job.nodes) c.job.view_is) ∙ sym c.deref.ensures.value)
    (is_job c.args.self.now c.held_by.ensures.kept.partition c.args.worker c.in-Some.held.now (sym c.in-Some.ensures.is)))
