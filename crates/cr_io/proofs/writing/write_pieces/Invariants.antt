use Rattle.std.proofs.Common.{◌≡◌, take}
use Rattle.cr_io.specs.Grown.{joined}
use Rattle.cr_io.proofs.writing.write_pieces.Given as goal

abbrev pub invariant-loop-piece : goal.invariant-loop-piece
invariant-loop-piece g l =
    g.K.Sink.grew l.initial.sink l.sink (joined (take l.piece-index l.pieces)) ×
    (g.K.Sink.faults l.sink ≡ g.K.Sink.faults l.initial.sink)
