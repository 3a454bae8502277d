use Rattle.std.proofs.Common.{◌≤◌, take}
use Rattle.cr_top.specs.Pieces.{text_of}
use Rattle.cr_top.proofs.notes.write_pieces.Given as goal

abbrev pub invariant-loop-piece : goal.invariant-loop-piece
invariant-loop-piece g l =
    g.N.Sink.grew l.initial.notes l.notes (text_of (take l.piece-index l.pieces)) ×
    (g.N.Sink.faults l.initial.notes ≤ g.N.Sink.faults l.notes)
