use Rattle.std.proofs.Common.{◌≡◌, length, map, take}
use Rattle.std.specs.List.{AllZip}
use Rattle.cr_store.specs.ShapeReads.{found_parts}
use Rattle.cr_store.specs.Lines.{IsTouchOf}
use Rattle.cr_store.proofs.reading.read_touches.Given as goal

-- the touches of the lines so far
abbrev pub invariant-loop-line : goal.invariant-loop-line
invariant-loop-line l =
    (length l.found.items ≡ l.line-index) × AllZip (IsTouchOf l.problem) (take l.line-index (map found_parts l.lines)) l.found.items
