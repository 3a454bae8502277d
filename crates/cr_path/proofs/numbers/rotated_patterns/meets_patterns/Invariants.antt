use Rattle.std.proofs.Common.{All, take}
use Rattle.cr_model.specs.Callings.{rows_of}
use Rattle.cr_model.specs.Decided.{rotated}
use Rattle.cr_model.specs.Queries.{IsWithin, rows_fitting}
use Rattle.cr_path.proofs.numbers.rotated_patterns.meets_patterns.Given as goal

abbrev pub invariant-loop-index : goal.invariant-loop-index
invariant-loop-index l =
    All (λ pattern. IsWithin pattern.min pattern.max (rows_fitting pattern.cells (rows_of l.problem (rotated l.by l.calling)))) (take l.index l.problem.query.patterns)
