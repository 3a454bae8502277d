-- A mark that the method has not.
use Rattle.std.proofs.Common.{refl}
use Rattle.cr_book.proofs.LeadTexts.{marked_wrong}
use Rattle.cr_book.proofs.reading.marked_lead.Goals as goal

pub returns-in-None : goal.returns-in-None
returns-in-None c =
    marked_wrong c.args.problem.now c.requires.sound c.requires.one c.args.text.now c.requires.some (c.in-None.ensures.none refl)
