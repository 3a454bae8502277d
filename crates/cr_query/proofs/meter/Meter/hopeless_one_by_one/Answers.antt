use Rattle.std.proofs.Common.{◌≡◌, length, ap, ◌∙◌, arith}
use Rattle.cr_model.specs.Sizes.{child}
use Rattle.cr_query.specs.Meters.{MeterParts, is_hopeless_by_leads}
use Rattle.cr_query.specs.Sets.{has_step}
use Rattle.cr_query.proofs.StepSets.{no_steps, more_steps, steps_are, no_steps_beyond}
use Rattle.cr_query.proofs.meter.Meter.hopeless_one_by_one.Goals as goal

pub loop-step-init : goal.loop-step-init
loop-step-init c = no_steps (λ step. is_hopeless_by_leads c.args.self.now.problem (child c.args.self.now.node step))

pub loop-step-preserved : goal.loop-step-preserved
loop-step-preserved c =
    more_steps (λ step. is_hopeless_by_leads c.args.self.now.problem (child c.args.self.now.node step)) c.loop-step.step c.loop-step.set c.with_step-set.result c.loop-step.invariant
    (rw c.is_hopeless_with.ensures at c.with_step-set.ensures.put)

pub returns-clause-each : goal.returns-clause-each
returns-clause-each c step known =
    let same : length c.self.inside.problem.leads ≡ length c.args.self.now.problem.leads = ap (λ (meter : MeterParts). length meter.problem.leads) c.self.view_is in
    ap (λ set. has_step set step) c.loop-step.invariant
    ∙ steps_are (λ s. is_hopeless_by_leads c.args.self.now.problem (child c.args.self.now.node s)) c.loop-step.step step
    (omega (arith, c.loop-step.auto.step-end, c.step_count-step-end.ensures.few)) (omega (arith, known, same, c.loop-step-test.false, c.step_count-step-end.ensures.is))

pub returns-clause-others : goal.returns-clause-others
returns-clause-others c step beyond =
    let same : length c.self.inside.problem.leads ≡ length c.args.self.now.problem.leads = ap (λ (meter : MeterParts). length meter.problem.leads) c.self.view_is in
    ap (λ set. has_step set step) c.loop-step.invariant
    ∙ no_steps_beyond (λ s. is_hopeless_by_leads c.args.self.now.problem (child c.args.self.now.node s)) c.loop-step.step step
    (omega (arith, c.loop-step.auto.step-end, c.step_count-step-end.ensures.few)) (omega (arith, beyond, same, c.loop-step.auto.step-end, c.step_count-step-end.ensures.is))
