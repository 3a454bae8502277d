use Rattle.std.proofs.Common.{All, take}
use Rattle.cr_model.specs.Queries.{IsWithin, rows_fitting}
use Rattle.cr_audit.proofs.keeping.all_fitting.Given as goal

abbrev pub invariant-loop-index : goal.invariant-loop-index
invariant-loop-index l = All (λ pattern. IsWithin pattern.min pattern.max (rows_fitting pattern.cells l.rows)) (take l.index l.patterns)
