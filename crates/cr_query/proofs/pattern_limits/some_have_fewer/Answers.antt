use Rattle.std.proofs.Common.{◌≤◌, sym, ◌∙◌}
use Rattle.cr_query.specs.Gauges.{RowGauge, has_fewer_rows}
use Rattle.cr_query.specs.Tallies.{fitting_at}
use Rattle.cr_query.proofs.Stacks.{at_item, any_at}
use Rattle.cr_query.proofs.pattern_limits.some_have_fewer.Goals as goal

pub has_fewer-requires-clause-few : goal.has_fewer-requires-clause-few
has_fewer-requires-clause-few c =
    at_item (λ (gauge : RowGauge). gauge.number ≤ 1048576) (fitting_at c.args.front) c.args.fittings.now c.loop-fitting.fitting-index c.fitting-item.result c.loop-fitting-test.true c.fitting-item.is c.requires.few

pub returns-then-has_fewer : goal.returns-then-has_fewer
returns-then-has_fewer c =
    any_at (has_fewer_rows c.args.more) (fitting_at c.args.front) c.args.fittings.now c.loop-fitting.fitting-index c.fitting-item.result c.loop-fitting-test.true c.fitting-item.is
    (sym c.has_fewer.ensures ∙ c.if-has_fewer.true)
