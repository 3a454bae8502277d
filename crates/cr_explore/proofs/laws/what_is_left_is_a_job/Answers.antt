use Rattle.cr_explore.proofs.Finishing.{rest_is_job}
use Rattle.cr_explore.proofs.laws.what_is_left_is_a_job.Goals as goal

pub returns : goal.returns
returns c = rest_is_job
