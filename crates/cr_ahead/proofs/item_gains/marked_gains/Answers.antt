use Rattle.std.proofs.Common.{◌≡◌, ◌+◌, ◌%◌, rules, arith}
use Rattle.std.proofs.lemmas.List.FromFn.{map-range_with_len_more}
use Rattle.cr_ahead.specs.LeadMoves.{marked_gain}
use Rattle.cr_ahead.proofs.item_gains.marked_gains.Goals as goal

pub loop-entry-preserved : goal.loop-entry-preserved
loop-entry-preserved c =
    let at : 0 + c.loop-entry.entry ≡ c.loop-entry.entry = omega arith in
    search (rules, map-range_with_len_more (λ entry. marked_gain c.args.problem.now c.args.mark (entry % c.from-steps.result)) 0 c.loop-entry.entry c.loop-entry.entry at)
