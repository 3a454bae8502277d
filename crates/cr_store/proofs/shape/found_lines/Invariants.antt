use Rattle.std.proofs.Common.{map}
use Rattle.cr_store.specs.Shapes.{IsFoundLine, found_text}
use Rattle.cr_store.specs.ShapeReads.{found_parts}
use Rattle.cr_store.specs.ShapeSteps.{AreRead}
use Rattle.cr_store.proofs.shape.found_lines.Given as goal

-- the lines so far are read
abbrev pub invariant-loop-done : goal.invariant-loop-done
invariant-loop-done l = AreRead found_text IsFoundLine l._done l.text (map found_parts l.found.items) l.rest
