use Rattle.std.proofs.Common.{◌≡◌, take, map}
use Rattle.cr_query.specs.Shapes.{shape_of}
use Rattle.cr_log.proofs.shapes.compiled.Given as goal

abbrev pub invariant-loop-pattern : goal.invariant-loop-pattern
invariant-loop-pattern l = l.shapes.items ≡ map (λ pattern. shape_of l.stage pattern.cells) (take l.pattern-index l.patterns)
