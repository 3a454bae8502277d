use Rattle.std.proofs.Common.{◌≡◌, ◌+◌, drop, length}
use Rattle.cr_io.specs.Grown.{joined}
use Rattle.cr_model.specs.Texts.{IsNumber}
use Rattle.cr_trail.proofs.trail.size_of.Given as goal

abbrev pub invariant-loop-piece : goal.invariant-loop-piece
invariant-loop-piece l = (l.size + length (joined (drop l.piece-index l.pieces)) ≡ length (joined l.pieces)) × IsNumber l.size
