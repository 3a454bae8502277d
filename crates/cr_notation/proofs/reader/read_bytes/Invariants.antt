use Rattle.std.proofs.Common.{◌≡◌, length, drop}
use Rattle.cr_notation.specs.Reading.{read_from, limited, read_all}
use Rattle.cr_notation.specs.Refining.{state_of, IsReady}
use Rattle.cr_notation.proofs.reader.read_bytes.Given as goal

abbrev pub invariant-loop-at : goal.invariant-loop-at
invariant-loop-at l = record {
  ready : IsReady l.fn.stage l.reader;
  same : limited (length l.bytes) (read_from l.fn.stage (state_of l.reader) l.at (drop l.at l.bytes)) ≡ read_all l.fn.stage l.bytes;
}
