use Rattle.std.proofs.Common.{◌≡◌, ℕ, ◌+◌, ◌*◌, ◌/◌, ◌%◌, ◌<◌, length, sym, ap, ◌∙◌, rules, arith}
use Rattle.std.proofs.lemmas.List.FromFn.{map-range_with_len_more}
use Rattle.std.proofs.lemmas.Nat.{div_below, mod_below}
use Rattle.cr_ahead.specs.ByMethod.{spread_place}
use Rattle.cr_ahead.proofs.by_method.spread_next.Goals as goal

pub spread_place-requires-clause-place : goal.spread_place-requires-clause-place
spread_place-requires-clause-place c =
    let some : 0 < c.from-steps.result = omega (arith, c.from-steps.ensures, c.step_count.ensures.some) in
    div_below c.loop-entry.entry c.from-steps.result (c.args.heads * c.args.each) some (omega (arith, c.loop-entry-test.true, c.loop-entry.auto.entry-end, ap (λ (n : ℕ). c.args.heads * n * c.from-steps.result) c.from.ensures))

pub spread_place-requires-clause-step : goal.spread_place-requires-clause-step
spread_place-requires-clause-step c =
    let some : 0 < c.from-steps.result = omega (arith, c.from-steps.ensures, c.step_count.ensures.some) in
    omega (arith, mod_below c.loop-entry.entry c.from-steps.result some, c.from-steps.ensures, c.step_count.ensures.is)

pub loop-entry-preserved : goal.loop-entry-preserved
loop-entry-preserved c =
    let at : 0 + c.loop-entry.entry ≡ c.loop-entry.entry = omega arith in
    search (rules, map-range_with_len_more (λ entry. spread_place c.args.problem.now c.args.each c.args.next.now (entry / c.from-steps.result) (entry % c.from-steps.result)) 0 c.loop-entry.entry c.loop-entry.entry at)
