use Rattle.std.proofs.Common.{◌∙◌, ap}
use Rattle.std.proofs.lemmas.Result.{IfErr-weaker}
use Rattle.clap.specs.Words.{takes}
use Rattle.cr_words.specs.Commands.{are_taken, texts_of}
use Rattle.cr_words.proofs.Taken.{taken_by}
use Rattle.cr_words.proofs.command.parsed.Goals as goal

pub returns-clause-taken : goal.returns-clause-taken
returns-clause-taken c = taken_by c.try_get_matches_from.result _ (texts_of c.args.words.now) c.in_ok-command.ensures
    c.try_get_matches_from.ensures.kinds

pub returns-clause-passes : goal.returns-clause-passes
unfolding are_taken
returns-clause-passes c =
    IfErr-weaker c.try_get_matches_from.result _ _
    (λ e passes taken. passes (ap (λ a. takes a (texts_of c.args.words.now)) c.in_ok-command.ensures ∙ taken))
    c.try_get_matches_from.ensures.passes
