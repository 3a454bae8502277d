use Rattle.std.proofs.Common.{◌≤◌, get_or, sym, ap, ◌∙◌, subst, arith}
use Rattle.cr_query.specs.declared.gauges.Gauge.{Gauge}
use Rattle.cr_query.specs.Gauges.{is_below}
use Rattle.cr_query.specs.Tallies.{at_front}
use Rattle.cr_query.proofs.Stacks.{at_item, any_at}
use Rattle.cr_query.proofs.tallies.some_below.Goals as goal

pub is_below-requires-clause-few : goal.is_below-requires-clause-few
is_below-requires-clause-few c =
    let few : get_or c.tally-item.result.numbers c.args.front 0 ≤ 1024 =
    at_item (λ (gauge : Gauge). gauge.number ≤ 1024) (at_front c.args.front) c.args.tallies.now c.loop-tally.tally-index c.tally-item.result c.loop-tally-test.true c.tally-item.is c.requires.few in
    subst (λ (gauge : Gauge). gauge.number ≤ 1025) (sym c.at.ensures) (omega (arith, few))

pub returns-then-is_below : goal.returns-then-is_below
returns-then-is_below c =
    any_at (is_below c.args.more) (at_front c.args.front) c.args.tallies.now c.loop-tally.tally-index c.tally-item.result c.loop-tally-test.true c.tally-item.is
    (ap (is_below c.args.more) (sym c.at.ensures) ∙ sym c.is_below.ensures ∙ c.if-is_below.true)
