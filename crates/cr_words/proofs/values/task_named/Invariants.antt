use Rattle.std.proofs.Common.{◌≡◌, drop, map}
use Rattle.cr_words.specs.Values.{named}
use Rattle.cr_words.specs.Tables.{task_in}
use Rattle.cr_words.proofs.values.task_named.Given as goal

abbrev pub invariant-loop-task : goal.invariant-loop-task
invariant-loop-task l = named (map task_in (drop l.task-index l.tasks)) l.word ≡ named (map task_in l.tasks) l.word
