use Rattle.std.proofs.Common.{take}
use Rattle.cr_model.specs.Texts.{Lacks}
use Rattle.cr_audit.proofs.reading.split_at_byte.Given as goal

abbrev pub invariant-loop-place : goal.invariant-loop-place
invariant-loop-place l = Lacks l.byte (take l.place l.text)
