use Rattle.cr_model.specs.Problems.{ProblemParts}
use Rattle.cr_model.specs.Sizes.{most_rows}
use Rattle.cr_model.specs.Sound.{IsSound}
use Rattle.cr_explore.proofs.Splitting.{TurnLaws, turned, turned_size}
use Rattle.cr_explore.proofs.laws.a_turn_goes_on_with_a_split.Goals as goal

pub returns : goal.returns
returns c =
    let laws : (p : ProblemParts) → IsSound p → TurnLaws p = λ p sound. record {
      one = λ node valid. c.one_turn_splits_a_node.ensures p most_rows node sound valid;
      among = c.a_split_among_others.ensures p;
      onward = c.splits_follow_one_another.ensures.onward p;
      size_of_node = λ node. c.sizes_are_sums.ensures.node p most_rows node sound;
      size_of_joined = λ nodes more. c.sizes_are_sums.ensures.joined p most_rows nodes more;
    } in
    record {
      splits = λ p job found below node sound. turned p (laws p sound) job found below node;
      size = λ p below node sound. turned_size p (laws p sound) below node;
    }
