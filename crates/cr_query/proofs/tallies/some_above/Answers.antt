use Rattle.std.proofs.Common.{sym, ap, ◌∙◌}
use Rattle.cr_query.specs.Gauges.{is_above}
use Rattle.cr_query.specs.Tallies.{at_front}
use Rattle.cr_query.proofs.Stacks.{any_at}
use Rattle.cr_query.proofs.tallies.some_above.Goals as goal

pub returns-then-is_above : goal.returns-then-is_above
returns-then-is_above c =
    any_at is_above (at_front c.args.front) c.args.tallies.now c.loop-tally.tally-index c.tally-item.result c.loop-tally-test.true c.tally-item.is
    (ap is_above (sym c.at.ensures) ∙ sym c.is_above.ensures ∙ c.if-is_above.true)
