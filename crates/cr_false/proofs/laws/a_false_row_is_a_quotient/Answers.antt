use Rattle.cr_false.proofs.Adding.{QuotientLaws, is_quotient}
use Rattle.cr_false.proofs.laws.a_false_row_is_a_quotient.Goals as goal

pub returns : goal.returns
returns c = λ g r s inverse is_row long same undoes.
    let laws : QuotientLaws = record {
      associates = c.product_associates.ensures;
      long = c.product_of_rows.ensures.same_length;
      neutral = c.rounds_is_neutral.ensures.right;
      rounds_long = c.rounds_is_neutral.ensures.length;
      cancel = c.rows_cancel.ensures.right;
    } in
    is_quotient laws r s inverse is_row same undoes g long
