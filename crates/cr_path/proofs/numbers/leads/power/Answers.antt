use Rattle.std.proofs.Common.{◌∙◌, List, ℕ, sym, ap}
use Rattle.cr_row.specs.Rows.{product}
use Rattle.cr_path.proofs.ComingRound.{power_none, power_more}
use Rattle.cr_path.proofs.numbers.leads.power.Goals as goal

pub loop-part-init : goal.loop-part-init
loop-part-init c = record {
  is = c.rounds-product.ensures.is ∙ sym (power_none c.args.stage c.args.row.now);
  same_stage = c.rounds-product.ensures.same_stage;
}

pub loop-part-preserved : goal.loop-part-preserved
loop-part-preserved c = record {
  is = c.times-product.ensures.is ∙ ap (λ (row : List ℕ). product row c.args.row.now) c.loop-part.invariant.is
      ∙ sym (power_more c.args.stage c.loop-part._part c.args.row.now);
  same_stage = c.times-product.ensures.same_stage ∙ c.loop-part.invariant.same_stage;
}
