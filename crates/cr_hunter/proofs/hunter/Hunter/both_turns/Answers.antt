use Rattle.std.proofs.Common.{[], ◌∷◌, sym, ◌∙◌}
use Rattle.cr_hunter.proofs.Hunting.{both_job, job_of}
use Rattle.cr_hunter.proofs.hunter.Hunter.both_turns.Goals as goal

pub explore-requires : goal.explore-requires
explore-requires c =
    job_of c.args.self.now c.deref.result.now ((1 ∷ []) ∷ (0 ∷ []) ∷ []) (sym c.self.view_is ∙ c.self.invariant) (c.deref.ensures.value ∙ c.in_ok-job.ensures) both_job
