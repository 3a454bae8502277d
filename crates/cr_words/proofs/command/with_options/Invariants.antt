use Rattle.std.proofs.Common.{◌≡◌, drop, map}
use Rattle.clap.specs.Words.{app_of}
use Rattle.cr_words.specs.Commands.{rule_for, with_rules}
use Rattle.cr_words.specs.Tables.{choice_of}
use Rattle.cr_words.proofs.command.with_options.Given as goal

abbrev pub invariant-loop-choice : goal.invariant-loop-choice
invariant-loop-choice l =
    with_rules (app_of l.command) (map rule_for (map choice_of (drop l.choice-index l.choices)))
    ≡ with_rules (app_of l.initial.command) (map rule_for (map choice_of l.choices))
