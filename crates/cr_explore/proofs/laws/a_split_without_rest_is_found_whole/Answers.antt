use Rattle.cr_explore.proofs.Splitting.{found_as_often, found_once}
use Rattle.cr_explore.proofs.laws.a_split_without_rest_is_found_whole.Goals as goal

pub returns : goal.returns
returns c = record {
  times = found_as_often;
  each = found_once;
  only = λ p job found splits. splits.found_kept;
}
