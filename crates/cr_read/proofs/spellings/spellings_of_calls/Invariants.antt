use Rattle.std.proofs.Common.{take}
use Rattle.std.specs.List.{AllZip}
use Rattle.cr_model.specs.Notation.{Spells}
use Rattle.cr_model.specs.ProblemFiles.{call_texts}
use Rattle.cr_read.proofs.spellings.spellings_of_calls.Given as goal

abbrev pub invariant-loop-index : goal.invariant-loop-index
invariant-loop-index l = AllZip (Spells l.stage) (take l.index (call_texts l.file)) l.calls.items
