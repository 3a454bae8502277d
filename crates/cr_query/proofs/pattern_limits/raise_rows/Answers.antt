use Rattle.std.proofs.Common.{◌≤◌, get_or, sym, subst, arith}
use Rattle.std.proofs.lemmas.List.{get_or_default}
use Rattle.std.proofs.lemmas.List.Edits.{map_over_more}
use Rattle.cr_query.specs.declared.pattern_limits.Fitting.{Fitting}
use Rattle.cr_query.specs.Gauges.{RowGauge}
use Rattle.cr_query.specs.Tallies.{fitting_at, lead_on}
use Rattle.cr_query.proofs.Edits.{not_yet}
use Rattle.cr_query.proofs.Stacks.{of_each}
use Rattle.cr_query.proofs.pattern_limits.raise_rows.Goals as goal

pub raise_fitting-requires-clause-few : goal.raise_fitting-requires-clause-few
raise_fitting-requires-clause-few c =
    let old = c.index-fittings-index.result in
    subst (λ (fitting : Fitting). get_or fitting.numbers c.args.front 0 ≤ 1048576)
    (sym (not_yet (lead_on c.args.front c.args.head.now c.args.lead.now) c.args.fittings.now c.loop-index.fittings c.loop-index.index old (omega arith) c.loop-index.invariant))
    (of_each (λ (gauge : RowGauge). gauge.number ≤ 1048576) (fitting_at c.args.front) c.args.fittings.now c.requires.few c.loop-index.index old (omega arith))

pub loop-index-preserved : goal.loop-index-preserved
loop-index-preserved c =
    let old = get_or c.loop-index.fittings c.loop-index.index c.index-fittings-index.result in
    rw c.raise_fitting.ensures (map_over_more (lead_on c.args.front c.args.head.now c.args.lead.now) c.args.fittings.now c.loop-index.fittings c.loop-index.index old (omega arith) c.loop-index.invariant (get_or_default c.loop-index.fittings c.loop-index.index c.index-fittings-index.result old (omega arith)))
