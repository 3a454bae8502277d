use Rattle.std.proofs.Common.{◌≤◌, ◌||◌, sym, ap₂, ◌∙◌}
use Rattle.cr_query.specs.Gauges.{RowGauge, has_more_rows, has_fewer_rows}
use Rattle.cr_query.specs.Tallies.{fitting_at}
use Rattle.cr_query.proofs.Stacks.{at_item, any_at}
use Rattle.cr_query.proofs.pattern_limits.some_are_out.Goals as goal

pub has_fewer-requires-clause-few : goal.has_fewer-requires-clause-few
has_fewer-requires-clause-few c =
    at_item (λ (gauge : RowGauge). gauge.number ≤ 1048576) (fitting_at c.args.front) c.args.fittings.now c.loop-fitting.fitting-index c.fitting-item.result c.loop-fitting-test.true c.fitting-item.is c.requires.few

pub returns-then-has_more-has_fewer : goal.returns-then-has_more-has_fewer
returns-then-has_more-has_fewer c =
    any_at (λ gauge. has_more_rows gauge || has_fewer_rows c.args.more gauge) (fitting_at c.args.front) c.args.fittings.now c.loop-fitting.fitting-index c.fitting-item.result c.loop-fitting-test.true c.fitting-item.is
    (ap₂ (λ a b. a || b) (sym c.has_more.ensures) (sym c.has_fewer.ensures) ∙ c.if-has_more-has_fewer.true)
