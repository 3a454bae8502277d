use Rattle.std.proofs.Common.{◌∙◌}
use Rattle.cr_log.proofs.Powers.{one_word_more}
use Rattle.cr_log.proofs.finding.power.Goals as goal

pub loop-part-preserved : goal.loop-part-preserved
loop-part-preserved c = record {
  is = λ p node h.
      c.times-row.ensures.is
      ∙ one_word_more p node c.loop-part.row c.args.head c.loop-part._part (c.joined_callings_multiply.ensures.head p) (c.loop-part.invariant.is p node h) h;
  same_stage = c.times-row.ensures.same_stage ∙ c.loop-part.invariant.same_stage;
}
