use Rattle.std.proofs.Common.{◌≡◌, ◌+◌, ◌/◌, ◌%◌, rules, arith}
use Rattle.std.proofs.lemmas.List.FromFn.{map-range_with_len_more}
use Rattle.cr_ahead.specs.LeadMoves.{changing_gain}
use Rattle.cr_ahead.specs.ByMethod.{last_at}
use Rattle.cr_ahead.proofs.by_method.changing_gains.Goals as goal

pub loop-entry-preserved : goal.loop-entry-preserved
loop-entry-preserved c =
    let at : 0 + c.loop-entry.entry ≡ c.loop-entry.entry = omega arith in
    search (rules, map-range_with_len_more (λ entry. changing_gain c.args.problem.now (last_at c.args.each (entry / c.from-steps.result)) (entry % c.from-steps.result)) 0 c.loop-entry.entry c.loop-entry.entry at)
