use Rattle.std.proofs.Common.{All, refl, sym, ◌∙◌, subst, arith}
use Rattle.std.proofs.lemmas.Bool.{false≢true}
use Rattle.std.proofs.lemmas.List.{take_all}
use Rattle.std.proofs.lemmas.List.Elements.{All-more, All-get_or}
use Rattle.cr_model.specs.Problems.{PatternParts}
use Rattle.cr_model.specs.Queries.{IsWithin, rows_fitting}
use Rattle.cr_audit.proofs.keeping.all_fitting.Goals as goal

pub loop-index-preserved : goal.loop-index-preserved
loop-index-preserved c =
    let rows = c.args.rows.now in
    let pattern = c.index-patterns-index.result in
    All-more (λ (pattern : PatternParts). IsWithin pattern.min pattern.max (rows_fitting pattern.cells rows)) c.args.patterns.now c.loop-index.index pattern (omega arith) c.loop-index.invariant
    (subst (λ (pattern : PatternParts). IsWithin pattern.min pattern.max (rows_fitting pattern.cells rows)) c.index-patterns-index.is (c.is_fitting.ensures.0 c.if-not-is_fitting.false))

pub returns-then-not-is_fitting : goal.returns-then-not-is_fitting
returns-then-not-is_fitting c =
    let rows = c.args.rows.now in (
      λ h. absurd (false≢true h),
      λ all. absurd (false≢true (sym c.if-not-is_fitting.true ∙ c.is_fitting.ensures.1
          (subst (λ (pattern : PatternParts). IsWithin pattern.min pattern.max (rows_fitting pattern.cells rows)) (sym c.index-patterns-index.is)
          (All-get_or (λ (pattern : PatternParts). IsWithin pattern.min pattern.max (rows_fitting pattern.cells rows)) c.args.patterns.now c.loop-index.index c.index-patterns-index.result (omega arith) all)))),
    )

pub returns : goal.returns
returns c =
    let rows = c.args.rows.now in (
      λ _. subst (All (λ (pattern : PatternParts). IsWithin pattern.min pattern.max (rows_fitting pattern.cells rows))) (take_all c.loop-index.index c.args.patterns.now (omega arith)) c.loop-index.invariant,
      λ _. refl,
    )
