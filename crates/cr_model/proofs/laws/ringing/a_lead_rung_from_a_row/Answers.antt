use Rattle.cr_model.proofs.Ringing.{rung_from}
use Rattle.cr_model.proofs.laws.ringing.a_lead_rung_from_a_row.Goals as goal

pub returns : goal.returns
returns c = rung_from c.change_after_product.ensures c.rounds_is_neutral.ensures.right
