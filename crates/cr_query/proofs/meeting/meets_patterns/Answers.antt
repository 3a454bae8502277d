use Rattle.std.proofs.Common.{◌≡◌, All, refl, sym, ◌∙◌, subst, arith}
use Rattle.std.proofs.lemmas.Bool.{false≢true}
use Rattle.std.proofs.lemmas.List.{take_all, get_or_default}
use Rattle.std.proofs.lemmas.List.Elements.{All-more, All-get_or}
use Rattle.cr_model.specs.Problems.{PatternParts}
use Rattle.cr_model.specs.Queries.{IsWithin, rows_fitting}
use Rattle.cr_model.specs.Right.{FitsStage, pattern_at}
use Rattle.cr_query.proofs.meeting.meets_patterns.Goals as goal

pub meets_pattern-requires-clause-cells : goal.meets_pattern-requires-clause-cells
meets_pattern-requires-clause-cells c =
    let patterns = c.args.patterns.now in
    let index = c.loop-index.index in
    let at : c.index-patterns-index.result ≡ pattern_at patterns index = c.index-patterns-index.is ∙ get_or_default patterns index c.index-patterns-index.result _ (omega arith) in
    subst (λ (pattern : PatternParts). FitsStage c.args.stage pattern.cells) (sym at) (c.requires.cells index (omega arith))

pub loop-index-preserved : goal.loop-index-preserved
loop-index-preserved c =
    let patterns = c.args.patterns.now in
    let pattern = c.index-patterns-index.result in
    All-more (λ (pattern : PatternParts). IsWithin pattern.min pattern.max (rows_fitting pattern.cells c.args.rows.now)) patterns c.loop-index.index pattern (omega arith) c.loop-index.invariant
    (subst (λ (pattern : PatternParts). IsWithin pattern.min pattern.max (rows_fitting pattern.cells c.args.rows.now)) c.index-patterns-index.is (c.in_ok-meets_pattern.ensures.0 c.if-not-branch.false))

pub returns-then-not-branch : goal.returns-then-not-branch
returns-then-not-branch c = (
  λ h. absurd (false≢true h),
  λ all. absurd (false≢true (sym c.if-not-branch.true ∙ c.in_ok-meets_pattern.ensures.1
      (subst (λ (pattern : PatternParts). IsWithin pattern.min pattern.max (rows_fitting pattern.cells c.args.rows.now)) (sym c.index-patterns-index.is)
      (All-get_or (λ (pattern : PatternParts). IsWithin pattern.min pattern.max (rows_fitting pattern.cells c.args.rows.now)) c.args.patterns.now c.loop-index.index c.index-patterns-index.result (omega arith) all)))),
)

pub returns : goal.returns
returns c = (
  λ _. subst (All (λ (pattern : PatternParts). IsWithin pattern.min pattern.max (rows_fitting pattern.cells c.args.rows.now))) (take_all c.loop-index.index c.args.patterns.now (omega arith)) c.loop-index.invariant,
  λ _. refl,
)
