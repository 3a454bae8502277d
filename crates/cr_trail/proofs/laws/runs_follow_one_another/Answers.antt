use Rattle.cr_trail.proofs.Following.{begun_run, can_follow, over_run, longer_run}
use Rattle.cr_trail.proofs.laws.runs_follow_one_another.Goals as goal

pub returns : goal.returns
returns c = record {
  begun = begun_run c.partitions_follow_one_another.ensures.begun c.partitions_follow_one_another.ensures.onward;
  on = λ p found jobs turns now left ran. can_follow p found jobs turns now left ran;
  over = over_run;
  more = longer_run c.partitions_follow_one_another.ensures.onward;
}
