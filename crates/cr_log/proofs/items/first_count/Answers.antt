use Rattle.std.proofs.Common.{◌≡◌, ◌<◌, ℕ, false, length, inl, inr, sym, ap, subst, arith, ◌∙◌}
use Rattle.std.proofs.lemmas.Bool.{cases_eq}
use Rattle.cr_model.specs.Problems.{QueryParts}
use Rattle.cr_audit.specs.declared.verdict.Item.TheVariants as item
use Rattle.cr_log.specs.FirstVerdicts.{is_missed}
use Rattle.cr_log.proofs.FirstItems.{count_kept}
use Rattle.cr_log.proofs.items.first_count.Goals as goal

pub loop-index-preserved : goal.loop-index-preserved
loop-index-preserved c = λ j less.
    let p = c.args.problem.now in
    let i = c.loop-index.index in
    let counts = c.counts_of-counts.ensures ∙ ap (λ (q : QueryParts). q.counts) c.query.ensures.is in
    let inside : i < length p.query.counts = omega (arith, c.loop-index-test.true, ap length counts) in
    let here : is_missed p c.args.node.now c.args.few (item.Count i) ≡ false = count_kept p c.args.node.now c.args.few i c.misses_count.result inside (rw counts at c.misses_count.ensures) c.if-misses_count.false in
    elim (cases_eq j i) [
      | inl same ↦ subst (λ (k : ℕ). is_missed p c.args.node.now c.args.few (item.Count k) ≡ false) (sym same) here
      | inr other ↦ c.loop-index.invariant j (omega arith)
    ]
