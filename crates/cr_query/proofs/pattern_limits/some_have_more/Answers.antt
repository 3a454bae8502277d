use Rattle.std.proofs.Common.{sym, ◌∙◌}
use Rattle.cr_query.specs.Gauges.{has_more_rows}
use Rattle.cr_query.specs.Tallies.{fitting_at}
use Rattle.cr_query.proofs.Stacks.{any_at}
use Rattle.cr_query.proofs.pattern_limits.some_have_more.Goals as goal

pub returns-then-has_more : goal.returns-then-has_more
returns-then-has_more c =
    any_at has_more_rows (fitting_at c.args.front) c.args.fittings.now c.loop-fitting.fitting-index c.fitting-item.result c.loop-fitting-test.true c.fitting-item.is
    (sym c.has_more.ensures ∙ c.if-has_more.true)
