use Rattle.std.proofs.Common.{take}
use Rattle.cr_path.specs.Marks.{AreSet}
use Rattle.cr_path.proofs.walks.marks.set_all.Given as goal

abbrev pub invariant-loop-number : goal.invariant-loop-number
invariant-loop-number l = AreSet l.mark (take l.number-index l.numbers) l.fn.marks l.marks
