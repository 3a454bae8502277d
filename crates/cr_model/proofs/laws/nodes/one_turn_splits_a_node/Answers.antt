use Rattle.cr_model.proofs.Bells.{RowLaws}
use Rattle.cr_model.proofs.DeadNodes.{none_below, first_reason}
use Rattle.cr_model.proofs.TurnSplits.{turn_splits}
use Rattle.cr_model.proofs.laws.nodes.one_turn_splits_a_node.Goals as goal

pub returns : goal.returns
returns c =
    let laws : RowLaws = record {
      rounds_row = c.rounds_is_neutral.ensures.row;
      rounds_length = c.rounds_is_neutral.ensures.length;
      rounds_right = c.rounds_is_neutral.ensures.right;
      rounds_left = c.rounds_is_neutral.ensures.left;
      after_row = c.change_of_a_row.ensures.row;
      after_length = c.change_of_a_row.ensures.same_length;
      after_product = c.change_after_product.ensures;
      associates = c.product_associates.ensures;
      one_side = c.inverse_on_one_side.ensures.right;
    } in
    λ p most node sound valid. turn_splits p most node sound
    (λ other why h. none_below laws c.change_twice.ensures p most other sound why (first_reason p most other why h).is) valid
