use Rattle.cr_words.specs.Commands.{texts_of}
use Rattle.cr_words.proofs.Answering.{refused_may_fail}
use Rattle.cr_words.proofs.command.matches_in.Goals as goal

pub returns-in-Err-clause-fails : goal.returns-in-Err-clause-fails
returns-in-Err-clause-fails c = refused_may_fail (texts_of c.args.words.now) _ (c.refusal.ensures _ c.in-Err.ensures.passes)
