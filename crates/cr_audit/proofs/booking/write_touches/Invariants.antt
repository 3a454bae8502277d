use Rattle.std.proofs.Common.{◌≡◌, ◌++◌, flat_map}
use Rattle.cr_model.specs.Books.{book_line}
use Rattle.cr_audit.specs.Touched.{AreTouches, callings}
use Rattle.cr_audit.proofs.booking.write_touches.Given as goal

-- the lines so far and those of the touches that are left
abbrev pub invariant-loop-touch : goal.invariant-loop-touch
invariant-loop-touch l =
    (l.text.items ++ flat_map (book_line l.problem) (callings l.touch-iterator) ≡ l.initial.text.items ++ flat_map (book_line l.problem) (callings l.touches.keys))
    × AreTouches l.problem l.touch-iterator
