use Rattle.std.proofs.Common.{◌≤◌, get_or, sym, ap, ◌∙◌, subst}
use Rattle.cr_query.specs.declared.gauges.Gauge.{Gauge}
use Rattle.cr_query.specs.Gauges.{raised, is_out}
use Rattle.cr_query.specs.Tallies.{at_front}
use Rattle.cr_query.proofs.Stacks.{at_item, any_at}
use Rattle.cr_query.proofs.tallies.some_out.Goals as goal

pub raised-requires : goal.raised-requires
raised-requires c =
    let few : get_or c.tally-item.result.numbers c.args.front 0 ≤ 1024 =
    at_item (λ (gauge : Gauge). gauge.number ≤ 1024) (at_front c.args.front) c.args.tallies.now c.loop-tally.tally-index c.tally-item.result c.loop-tally-test.true c.tally-item.is c.requires.few in
    subst (λ (gauge : Gauge). gauge.number ≤ 1024) (sym c.at.ensures) few

pub returns-then-is_out : goal.returns-then-is_out
returns-then-is_out c =
    any_at (λ gauge. is_out c.args.more (raised c.args.of gauge)) (at_front c.args.front) c.args.tallies.now c.loop-tally.tally-index c.tally-item.result c.loop-tally-test.true c.tally-item.is
    (ap (λ gauge. is_out c.args.more (raised c.args.of gauge)) (sym c.at.ensures) ∙ ap (is_out c.args.more) (sym c.raised.ensures.is) ∙ sym c.is_out.ensures ∙ c.if-is_out.true)
