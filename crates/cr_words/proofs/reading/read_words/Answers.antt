use Rattle.cr_words.specs.Commands.{texts_of}
use Rattle.cr_words.proofs.Answering.{accepted_answer, refused_answer}
use Rattle.cr_words.proofs.reading.read_words.Goals as goal

pub returns-clause-accepted : goal.returns-clause-accepted
returns-clause-accepted c =
    accepted_answer (texts_of c.args.words.now) c.wish_in.result c.wish_in.ensures.ok c.wish_in.ensures.fails

pub returns-clause-refused : goal.returns-clause-refused
returns-clause-refused c =
    refused_answer (texts_of c.args.words.now) c.wish_in.result c.wish_in.ensures.ok c.wish_in.ensures.fails
