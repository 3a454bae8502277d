use Rattle.std.proofs.Common.{◌≡◌, ◌+◌, ◌/◌, rules, arith}
use Rattle.std.proofs.lemmas.List.FromFn.{map-range_with_len_more}
use Rattle.cr_model.specs.Callings.{lead_length}
use Rattle.cr_ahead.proofs.units.lengths_in_units.Goals as goal

pub loop-step-preserved : goal.loop-step-preserved
loop-step-preserved c =
    let at : 0 + c.loop-step.step ≡ c.loop-step.step = omega arith in
    search (rules, map-range_with_len_more (λ step. lead_length c.args.problem.now step / c.args.unit) 0 c.loop-step.step c.loop-step.step at)
