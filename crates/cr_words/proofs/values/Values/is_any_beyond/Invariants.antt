use Rattle.std.proofs.Common.{◌≡◌, drop, map}
use Rattle.std.specs.List.{list_any}
use Rattle.cr_words.specs.Commands.{values_of}
use Rattle.cr_words.specs.Values.{is_beyond}
use Rattle.cr_words.specs.Tables.{choice_of, task_in}
use Rattle.cr_words.proofs.values.Values.is_any_beyond.Given as goal

abbrev pub invariant-loop-choice : goal.invariant-loop-choice
invariant-loop-choice l =
    list_any (is_beyond (values_of l.self.matches.now) (task_in l.task)) (map choice_of (drop l.choice-index l.choices))
    ≡ list_any (is_beyond (values_of l.self.matches.now) (task_in l.task)) (map choice_of l.choices)
