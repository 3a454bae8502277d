use Rattle.std.proofs.Common.{◌≡◌}
use Rattle.cr_notation.specs.Writing.{at_least}
use Rattle.cr_notation.proofs.writer.makes_some.Given as goal

abbrev pub invariant-loop-place : goal.invariant-loop-place
invariant-loop-place l = at_least l.place l.change.made ≡ l.change.made
