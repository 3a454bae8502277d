use Rattle.std.proofs.Common.{◌≡◌, ◌*◌, length, arith, ap, ◌∙◌}
use Rattle.cr_model.specs.Queries.{repeated}
use Rattle.cr_model.proofs.Repeating.{repeated_steps}
use Rattle.cr_model.proofs.calling.Calling.repeated.Goals as goal

pub invariant_of-result : goal.invariant_of-result
invariant_of-result c =
    let last : c.loop-time._time ≡ c.args.times = omega arith in
    let number : length c.loop-time.all ≡ c.args.times * length c.args.steps.now =
    ap length c.loop-time.invariant ∙ ap (λ n. length (repeated n c.args.steps.now)) last ∙ repeated_steps c.args.times c.args.steps.now in
    omega (arith, number, c.requires)

pub returns : goal.returns
returns c =
    let last : c.loop-time._time ≡ c.args.times = omega arith in
    c.loop-time.invariant ∙ ap (λ n. repeated n c.args.steps.now) last
