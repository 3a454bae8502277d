use Rattle.std.proofs.Common.{◌≤◌, map, take}
use Rattle.cr_top.specs.Lines.{shown}
use Rattle.cr_top.proofs.notes.write_shown.Given as goal

abbrev pub invariant-loop-byte : goal.invariant-loop-byte
invariant-loop-byte g l =
    g.N.Sink.grew l.initial.notes l.notes (map shown (take l.byte-index l.bytes)) ×
    (g.N.Sink.faults l.initial.notes ≤ g.N.Sink.faults l.notes)
