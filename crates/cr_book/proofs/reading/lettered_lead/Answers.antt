-- No method's letter; a letter alone; a letter with a mark that its method has not.
use Rattle.std.proofs.Common.{refl}
use Rattle.cr_book.proofs.LeadTexts.{letter_wrong, letter_alone, mark_wrong}
use Rattle.cr_book.proofs.reading.lettered_lead.Goals as goal

pub returns-in-None : goal.returns-in-None
returns-in-None c =
    letter_wrong c.args.problem.now c.requires.sound c.requires.several c.args.text.now c.requires.some (c.in-None.ensures.none refl)

pub returns-then-text-eq1 : goal.returns-then-text-eq1
returns-then-text-eq1 c =
    letter_alone c.args.problem.now c.requires.sound c.requires.several c.args.text.now c.in-Some.method c.if-text-eq1.true
    c.in-Some.ensures.known c.in-Some.ensures.is

pub returns-in-None-step_with : goal.returns-in-None-step_with
returns-in-None-step_with c =
    mark_wrong c.args.problem.now c.requires.sound c.requires.several c.args.text.now c.in-Some.method c.requires.some c.if-text-eq1.false
    c.in-Some.ensures.known c.in-Some.ensures.is (c.in-None-step_with.ensures.none refl)
