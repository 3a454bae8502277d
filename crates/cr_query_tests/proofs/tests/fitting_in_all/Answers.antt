use Rattle.std.proofs.Common.{ℕ, map, sym, ap, ap₂, ◌++◌, ◌∷◌, [], ◌∙◌, arith}
use Rattle.std.proofs.lemmas.List.{map_more}
use Rattle.cr_row.specs.Rows.{product}
use Rattle.cr_model.specs.Problems.{PatternParts}
use Rattle.cr_model.specs.Queries.{rows_fitting}
use Rattle.cr_query_tests.proofs.tests.fitting_in_all.Goals as goal

pub loop-index-preserved : goal.loop-index-preserved
loop-index-preserved c =
    let fitting : PatternParts → ℕ = λ pattern. rows_fitting pattern.cells (map (product c.args.head.now) c.args.lead.now) in
    c.in_ok-push.ensures.items
    ∙ ap₂ (λ xs x. xs ++ x ∷ []) c.loop-index.invariant (c.in_ok-fitting_in.ensures ∙ ap fitting c.index-patterns-index.is)
    ∙ sym (map_more fitting c.args.patterns.now c.loop-index.index c.index-patterns-index.result (omega arith))
