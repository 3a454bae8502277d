use Rattle.cr_ahead.specs.Ways.{gain_of, IsWay}
use Rattle.cr_ahead.proofs.Sets.{tells_one}
use Rattle.cr_ahead.proofs.Nodes.{none_both, in_order}
use Rattle.cr_ahead.proofs.laws.answers_are_exact.Goals as goal

pub returns : goal.returns
returns c = record {
  one = λ m least greatest place long one other. tells_one (IsWay m least greatest place long) (gain_of m place) one other;
  none = none_both;
  in_order = in_order;
}
