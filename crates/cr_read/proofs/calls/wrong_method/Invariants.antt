use Rattle.std.proofs.Common.{◌≡◌, ℕ, ◌<◌, true}
use Rattle.cr_model.specs.ProblemFiles.{is_for, Fits}
use Rattle.cr_read.proofs.calls.wrong_method.Given as goal

abbrev pub invariant-loop-method : goal.invariant-loop-method
invariant-loop-method l = (m : ℕ) → m < l.method → is_for l.file l.call m ≡ true → Fits l.file l.spellings l.call m
