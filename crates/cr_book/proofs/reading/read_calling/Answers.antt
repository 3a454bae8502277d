-- A calling's text is read as that calling.
use Rattle.cr_book.proofs.WrongPlaces.{accepted}
use Rattle.cr_book.proofs.reading.read_calling.Goals as goal

pub returns-clause-accepts : goal.returns-clause-accepts
returns-clause-accepts c = λ calling is.
    accepted c.args.problem.now c.width_of-width.ensures.sound c.args.text.now c.calling_of.result c.calling_of.ensures calling is
