use Rattle.std.proofs.Common.{◌≡◌, ◌-◌, ◌&&◌, length}
use Rattle.std.specs.Prelude.{nat_eq}
use Rattle.std.specs.List.{find, range_with_len}
use Rattle.cr_model.specs.ProblemFiles.{mark_at, is_for, call_with}
use Rattle.cr_read.proofs.leads.call_with.Given as goal

abbrev pub invariant-loop-call : goal.invariant-loop-call
invariant-loop-call l = find (λ call. nat_eq (mark_at l.file call) l.mark && is_for l.file call l.method) (range_with_len l.call (length l.file.calls - l.call)) ≡ call_with l.file l.method l.mark
