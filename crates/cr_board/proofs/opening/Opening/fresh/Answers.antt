use Rattle.std.proofs.Common.{[], ◌∷◌, sym, ap₂, subst}
use Rattle.cr_board.specs.Jobs.{IsOpening, opening_from}
use Rattle.cr_board.proofs.Openings.{one_job_opens}
use Rattle.cr_board.proofs.opening.Opening.fresh.Goals as goal

pub invariant_of-result : goal.invariant_of-result
invariant_of-result c =
    subst IsOpening (ap₂ (λ found jobs. opening_from c.args.problem found jobs c.args.budget c.args.workers) (sym c.new.ensures.items) (sym c.in_ok-jobs.ensures))
    (one_job_opens c.args.problem ([] ∷ []) c.args.budget c.args.workers (c.work_goes_on.ensures.root c.args.problem) c.requires.some c.requires.few)
