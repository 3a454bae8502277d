use Rattle.cr_model.proofs.Bells.{RowLaws}
use Rattle.cr_model.proofs.Below.{below}
use Rattle.cr_model.proofs.Cuts.{not_self_false}
use Rattle.cr_model.proofs.laws.dead.nothing_is_kept_below_a_self_false_node.Goals as goal

pub returns : goal.returns
returns c =
    let laws : RowLaws = record {
      rounds_row = c.rounds_is_neutral.ensures.row;
      rounds_length = c.rounds_is_neutral.ensures.length;
      rounds_right = c.rounds_is_neutral.ensures.right;
      rounds_left = c.rounds_is_neutral.ensures.left;
      after_row = c.change_of_a_row.ensures.row;
      after_length = c.change_of_a_row.ensures.same_length;
      after_product = c.change_after_product.ensures;
      associates = c.product_associates.ensures;
      one_side = c.inverse_on_one_side.ensures.right;
    } in
    λ p node sound h calling kept above. not_self_false p node calling sound (below p node calling sound kept above) laws h
