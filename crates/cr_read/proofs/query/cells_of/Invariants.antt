use Rattle.std.proofs.Common.{◌≡◌, map, take}
use Rattle.cr_model.specs.ProblemFiles.{cell_of}
use Rattle.cr_read.proofs.query.cells_of.Given as goal

abbrev pub invariant-loop-byte : goal.invariant-loop-byte
invariant-loop-byte l = l.cells.items ≡ map cell_of (take l.byte-index l.text)
