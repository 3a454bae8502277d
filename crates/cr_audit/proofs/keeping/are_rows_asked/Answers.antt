use Rattle.std.proofs.Common.{◌↔◌, List, All, IsTrue, ap, ◌∙◌, subst}
use Rattle.cr_model.specs.Problems.{PatternParts, QueryParts}
use Rattle.cr_model.specs.Queries.{IsWithin, rows_fitting}
use Rattle.cr_audit.proofs.keeping.are_rows_asked.Goals as goal

pub returns : goal.returns
returns c =
    let rows = c.args.rows.now in
    subst (λ (patterns : List PatternParts). IsTrue c.all_fitting.result ↔ All (λ pattern. IsWithin pattern.min pattern.max (rows_fitting pattern.cells rows)) patterns)
    (c.patterns_of.ensures ∙ ap (λ (q : QueryParts). q.patterns) c.query.ensures.is) c.all_fitting.ensures
