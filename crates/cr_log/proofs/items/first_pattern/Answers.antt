use Rattle.std.proofs.Common.{◌≡◌, ◌<◌, ℕ, List, false, length, get_or, inl, inr, sym, ap, subst, arith, ◌∙◌}
use Rattle.std.proofs.lemmas.Bool.{cases_eq}
use Rattle.cr_model.specs.Problems.{QueryParts, PatternParts}
use Rattle.cr_audit.specs.declared.verdict.Item.TheVariants as item
use Rattle.cr_log.specs.FirstVerdicts.{is_missed}
use Rattle.cr_log.proofs.FirstItems.{pattern_kept}
use Rattle.cr_log.proofs.items.first_pattern.Goals as goal

pub loop-index-preserved : goal.loop-index-preserved
loop-index-preserved c = λ j less.
    let p = c.args.problem.now in
    let i = c.loop-index.index in
    let patterns = c.patterns_of-patterns.ensures ∙ ap (λ (q : QueryParts). q.patterns) c.query.ensures.is in
    let inside : i < length p.query.patterns = omega (arith, c.loop-index-test.true, ap length patterns) in
    let here : is_missed p c.args.node.now c.args.few (item.Rows i) ≡ false = pattern_kept p c.args.node.now c.args.few i c.misses_pattern.result c.index-patterns-index.result inside
    (c.index-patterns-index.is ∙ ap (λ (ps : List PatternParts). get_or ps i c.index-patterns-index.result) patterns) c.misses_pattern.ensures c.if-misses_pattern.false in
    elim (cases_eq j i) [
      | inl same ↦ subst (λ (k : ℕ). is_missed p c.args.node.now c.args.few (item.Rows k) ≡ false) (sym same) here
      | inr other ↦ c.loop-index.invariant j (omega arith)
    ]
