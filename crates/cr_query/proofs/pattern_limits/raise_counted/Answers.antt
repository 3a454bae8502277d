use Rattle.std.proofs.Common.{ℕ, ◌≤◌, get_or, sym, subst, arith}
use Rattle.std.proofs.lemmas.List.{get_or_default}
use Rattle.cr_query.specs.declared.pattern_limits.Fitting.{Fitting}
use Rattle.cr_query.specs.Gauges.{RowGauge}
use Rattle.cr_query.specs.Tallies.{fitting_at, rows_on}
use Rattle.cr_query.proofs.Edits.{zipped_not_yet, zipped_more}
use Rattle.cr_query.proofs.Stacks.{of_each}
use Rattle.cr_query.proofs.pattern_limits.raise_counted.Goals as goal

pub raise_by-requires-clause-few : goal.raise_by-requires-clause-few
raise_by-requires-clause-few c =
    let old = c.index-fittings-index.result in
    subst (λ (fitting : Fitting). get_or fitting.numbers c.args.front 0 ≤ 1048576)
    (sym (zipped_not_yet (λ (pair : Fitting × ℕ). rows_on c.args.front pair.1 pair.0) c.args.fittings.now c.loop-index.fittings c.args.rows.now c.loop-index.index old (omega arith) (omega arith) c.loop-index.invariant))
    (of_each (λ (gauge : RowGauge). gauge.number ≤ 1048576) (fitting_at c.args.front) c.args.fittings.now c.requires.few c.loop-index.index old (omega arith))

pub loop-index-preserved : goal.loop-index-preserved
loop-index-preserved c =
    let old = get_or c.loop-index.fittings c.loop-index.index c.index-fittings-index.result in
    let here = get_or c.args.rows.now c.loop-index.index 0 in
    rw c.raise_by.ensures (zipped_more (λ (pair : Fitting × ℕ). rows_on c.args.front pair.1 pair.0) c.args.fittings.now c.loop-index.fittings c.args.rows.now c.loop-index.index old here (omega arith) (omega arith)
    c.loop-index.invariant (get_or_default c.loop-index.fittings c.loop-index.index c.index-fittings-index.result old (omega arith)) (get_or_default c.args.rows.now c.loop-index.index 0 here (omega arith)))
