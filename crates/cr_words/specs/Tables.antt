-- The rows of the reader's tables as those of the definitions.
use Rattle.std.specs.Prelude.{map, option_map}
use Rattle.cr_words.specs.Values as values
use Rattle.cr_words.specs.declared.table.Choice.{Choice}
use Rattle.cr_words.specs.declared.table.Task.{Task}

abbrev pub choice_of : Choice → values.Choice
choice_of choice = record { name = choice.name.now; default = option_map (λ s. s.now) choice.default }

abbrev pub task_in : Task → values.Task
task_in task = record { name = task.name.now; kind = task.kind; uses = map (λ s. s.now) task.uses.now }
