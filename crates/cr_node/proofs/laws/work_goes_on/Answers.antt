use Rattle.cr_node.proofs.Working.{root_is_job, not_begun, one_after_another}
use Rattle.cr_node.proofs.laws.work_goes_on.Goals as goal

pub returns : goal.returns
returns c = record {
  root = root_is_job;
  not_begun = not_begun c.splits_follow_one_another.ensures.not_begun;
  onward = one_after_another c.splits_follow_one_another.ensures.onward;
}
