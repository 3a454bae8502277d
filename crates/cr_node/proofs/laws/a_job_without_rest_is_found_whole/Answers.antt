use Rattle.cr_node.proofs.Working.{found_once, turns_are_size}
use Rattle.cr_node.proofs.laws.a_job_without_rest_is_found_whole.Goals as goal

pub returns : goal.returns
returns c = record {
  each = found_once;
  only = λ p job found used done. done.splits.found_kept;
  turns = turns_are_size;
}
