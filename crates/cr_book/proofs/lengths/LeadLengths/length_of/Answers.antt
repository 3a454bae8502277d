use Rattle.std.proofs.Common.{sym, arith, ◌∙◌}
use Rattle.cr_book.proofs.lengths.LeadLengths.length_of.Goals as goal

pub returns-clause-is : goal.returns-clause-is
returns-clause-is c = c.from.ensures ∙ sym (c.requires.alike c.args._step 0 (omega (arith, c.requires.size, c.ranges._step)))
