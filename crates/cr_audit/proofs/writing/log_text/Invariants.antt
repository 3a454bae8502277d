use Rattle.std.proofs.Common.{◌≡◌, ◌++◌, drop}
use Rattle.cr_audit.specs.Logs.{log_text}
use Rattle.cr_audit.proofs.writing.log_text.Given as goal

abbrev pub invariant-loop-line : goal.invariant-loop-line
invariant-loop-line l = l.text.items ++ log_text l.problem (drop l.line-index l.lines) ≡ log_text l.problem l.lines
