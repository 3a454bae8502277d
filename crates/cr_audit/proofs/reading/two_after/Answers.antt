use Rattle.cr_audit.proofs.RawLines.{never_two}
use Rattle.cr_audit.proofs.reading.two_after.Goals as goal

pub returns-clause-none : goal.returns-clause-none
returns-clause-none c = never_two c.args.text.now c.args.word.now c.in_ok-numbers.numbers.now c.two_of.result c.in_ok-numbers.ensures.some c.two_of.ensures.none
