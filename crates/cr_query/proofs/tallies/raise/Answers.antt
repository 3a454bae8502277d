use Rattle.std.proofs.Common.{◌≤◌, get_or, sym, subst, arith}
use Rattle.std.proofs.lemmas.List.{get_or_default}
use Rattle.std.proofs.lemmas.List.Edits.{map_over_more}
use Rattle.cr_query.specs.declared.gauges.Gauge.{Gauge}
use Rattle.cr_query.specs.declared.tallies.Tally.{Tally}
use Rattle.cr_query.specs.Tallies.{at_front, tallied}
use Rattle.cr_query.proofs.Edits.{not_yet}
use Rattle.cr_query.proofs.Stacks.{of_each}
use Rattle.cr_query.proofs.tallies.raise.Goals as goal

pub count-requires-clause-few : goal.count-requires-clause-few
count-requires-clause-few c =
    let old = c.index-tallies-index.result in
    subst (λ (tally : Tally). get_or tally.numbers c.args.front 0 ≤ 1024) (sym (not_yet (tallied c.args.front c.args.of) c.args.tallies.now c.loop-index.tallies c.loop-index.index old (omega arith) c.loop-index.invariant))
    (of_each (λ (gauge : Gauge). gauge.number ≤ 1024) (at_front c.args.front) c.args.tallies.now c.requires.few c.loop-index.index old (omega arith))

pub loop-index-preserved : goal.loop-index-preserved
loop-index-preserved c =
    let old = get_or c.loop-index.tallies c.loop-index.index c.index-tallies-index.result in
    rw c.count.ensures (map_over_more (tallied c.args.front c.args.of) c.args.tallies.now c.loop-index.tallies c.loop-index.index old (omega arith) c.loop-index.invariant (get_or_default c.loop-index.tallies c.loop-index.index c.index-tallies-index.result old (omega arith)))
