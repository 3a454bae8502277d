use Rattle.cr_run.proofs.Returning.{hinted_one}
use Rattle.cr_run.proofs.crew.hints_of.Goals as goal

pub loop-end-preserved : goal.loop-end-preserved
loop-end-preserved c =
    hinted_one _ _ _ _ _ _ _ _ _ _ c.in-Some.ensures.steps.0 c.loop-end.invariant _ _ c.in-Some-pop.ensures.items c.in_ok-push-in-Some-pop.ensures.items c.new.ensures
