use Rattle.std.proofs.Common.{[], refl}
use Rattle.cr_trail.proofs.Counting.{one_checkpoint, at_most, at_least}
use Rattle.cr_trail.proofs.laws.a_trail_has_a_checkpoint_for_each_turns.Goals as goal

pub returns : goal.returns
returns c = record {
  none = λ p bytes found every trail on from. one_checkpoint c.bytes_have_one_answer.ensures.one_checkpoint p bytes found [] every trail on from refl;
  most = λ p bytes found jobs every trail on from ends. at_most c.bytes_have_one_answer.ensures.one_checkpoint p bytes found jobs every trail on from
      c.sizes_are_sums.ensures.none ends;
  least = λ p bytes found jobs every trail on from. at_least c.bytes_have_one_answer.ensures.one_checkpoint p bytes found jobs every trail on from
      c.sizes_are_sums.ensures.none c.sizes_are_sums.ensures.node c.sizes_are_sums.ensures.first;
}
