use Rattle.std.proofs.Common.{◌≡◌, take}
use Rattle.cr_path.specs.Marks.{some_marked}
use Rattle.cr_path.proofs.walks.marks.some_marked.Given as goal

abbrev pub invariant-loop-number : goal.invariant-loop-number
invariant-loop-number l = l.marked ≡ some_marked l.marks (take l.number-index l.numbers)
