use Rattle.std.proofs.Common.{◌≡◌, ℕ, ◌<◌, true}
use Rattle.cr_model.specs.ProblemFiles.{is_for}
use Rattle.cr_read.proofs.calls.share_no_method.Given as goal

abbrev pub invariant-loop-method : goal.invariant-loop-method
invariant-loop-method l = (m : ℕ) → m < l.method → is_for l.file l.first m ≡ true → is_for l.file l.second m ≡ true → ⊥
