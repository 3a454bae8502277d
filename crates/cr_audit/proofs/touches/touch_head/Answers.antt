use Rattle.std.proofs.Common.{◌∙◌}
use Rattle.cr_audit.proofs.Powers.{one_word_more}
use Rattle.cr_audit.proofs.touches.touch_head.Goals as goal

pub loop-more-preserved : goal.loop-more-preserved
loop-more-preserved c = record {
  is = λ p node h.
      c.times-head.ensures.is
      ∙ one_word_more p node c.loop-more.head c.args.part c.loop-more._more (c.joined_callings_multiply.ensures.head p) (c.loop-more.invariant.is p node h) h;
  long = c.times-head.ensures.same_stage ∙ c.loop-more.invariant.long;
}
