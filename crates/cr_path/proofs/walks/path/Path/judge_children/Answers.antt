use Rattle.std.proofs.Common.{not, ◌∙◌, ap, arith, rules}
use Rattle.cr_path.proofs.Uncut.{seen_none, seen_more, seen_all}
use Rattle.cr_path.proofs.walks.path.Path.judge_children.Goals as goal

pub loop-step-init : goal.loop-step-init
loop-step-init g c = seen_none c.args.self.now.problem c.args.self.now.node c.no_steps-uncut.result c.no_steps-uncut.ensures

pub loop-step-preserved : goal.loop-step-preserved
loop-step-preserved g c =
    seen_more c.args.self.now.problem c.args.self.now.node c.loop-step.step c.loop-step.uncut c.with_step-uncut.result c.loop-step.invariant
    (λ straight. c.with_step-uncut.ensures.is (c.loop-step.invariant.free c.loop-step.step (omega arith) (search rules)) ∙ ap not (c.is_cut.ensures straight)) c.with_step-uncut.ensures.others

pub returns : goal.returns
returns g c =
    seen_all c.args.self.now.problem c.args.self.now.node c.first_straight.result c.loop-step.step c.loop-step.uncut c.without_below.result c.loop-step.invariant (omega (arith, c.loop-step-test.false, c.step_count-step-end.ensures.is))
    c.first_straight.ensures.few c.first_straight.ensures.turned c.first_straight.ensures.straight c.without_below.ensures.below c.without_below.ensures.others
