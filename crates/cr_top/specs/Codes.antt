-- The number of each status.
use Rattle.std.specs.Prelude.{ℕ}
use Rattle.cr_top.specs.declared.status.Status.{Status}
use Rattle.cr_top.specs.declared.status.Status.TheVariants as ended

abbrev pub code_of : Status → ℕ
code_of ended.Finished = 0
code_of (ended.Words fault) = 2
code_of (ended.Stopped turns) = 3
code_of (ended.Problem fault) = 4
code_of (ended.Checkpoint fault) = 5
code_of ended.ReadFault = 6
code_of ended.WriteFault = 7
code_of ended.NoMemory = 8
code_of ended.TooLong = 9
code_of (ended.Trail fault) = 10
code_of (ended.Join fault) = 11
code_of (ended.Audit fault) = 12
code_of ended.NotProblem = 13
