use Rattle.cr_false.proofs.Shared.{Laws, shared_rung}
use Rattle.cr_false.proofs.laws.a_clash_is_a_shared_row.Goals as goal

pub returns : goal.returns
returns c =
    let laws : Laws = record {
      rung = c.a_lead_rung_from_a_row.ensures;
      after_row = c.change_of_a_row.ensures.row;
      after_long = c.change_of_a_row.ensures.same_length;
      associates = c.product_associates.ensures;
      product_row = c.product_of_rows.ensures.row;
      product_long = c.product_of_rows.ensures.same_length;
      rounds_row = c.rounds_is_neutral.ensures.row;
      rounds_long = c.rounds_is_neutral.ensures.length;
      left = c.rounds_is_neutral.ensures.left;
    } in
    shared_rung laws
