use Rattle.std.proofs.Common.{◌≡◌, map, take}
use Rattle.cr_row.specs.Rows.{product}
use Rattle.cr_model.specs.Problems.{PatternParts}
use Rattle.cr_model.specs.Queries.{rows_fitting}
use Rattle.cr_query_tests.proofs.tests.fitting_in_all.Given as goal

abbrev pub invariant-loop-index : goal.invariant-loop-index
invariant-loop-index l = l.rows.items ≡ map (λ (pattern : PatternParts). rows_fitting pattern.cells (map (product l.head) l.lead)) (take l.index l.patterns)
