use Rattle.std.proofs.Common.{[], ◌∷◌, sym, ◌∙◌}
use Rattle.cr_hunter.proofs.Hunting.{step_job, job_of}
use Rattle.cr_hunter.proofs.hunter.Hunter.one_turn.Goals as goal

pub explore-requires : goal.explore-requires
explore-requires c =
    job_of c.args.self.now c.deref.result.now ((c.args.step ∷ []) ∷ []) (sym c.self.view_is ∙ c.self.invariant) (c.deref.ensures.value ∙ c.in_ok-job.ensures) (step_job c.args.step c.requires)
