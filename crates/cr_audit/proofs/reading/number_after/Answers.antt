use Rattle.cr_model.proofs.Lacking.{no_number_after}
use Rattle.cr_audit.proofs.reading.number_after.Goals as goal

pub returns-clause-none : goal.returns-clause-none
returns-clause-none c =
    no_number_after c.args.text.now c.args.word.now c.in_ok-digits.digits.now c.number_of.result c.in_ok-digits.ensures.some c.number_of.ensures.none
