use Rattle.cr_top.proofs.Stopping.{begun_goes_on}
use Rattle.cr_top.proofs.start.all_of.Goals as goal

pub returns-clause-goes_on : goal.returns-clause-goes_on
returns-clause-goes_on c = begun_goes_on c.args.problem.now _ _ (c.work_goes_on.ensures.root c.args.problem.now) c.new.ensures.items c.in_ok-jobs.ensures
