use Rattle.std.proofs.Common.{arith}
use Rattle.cr_model.specs.Sizes.{most_rows}
use Rattle.cr_explore.proofs.Splitting.{left_out, left_out_size}
use Rattle.cr_explore.proofs.laws.nodes_with_none_below_may_be_left_out.Goals as goal

pub returns : goal.returns
returns c = record {
  splits = left_out;
  size = λ p rest passed sound. left_out_size p (λ node. omega (arith, c.sizes_are_sums.ensures.node p most_rows node sound)) rest passed;
}
