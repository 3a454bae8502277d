use Rattle.cr_notation.proofs.Decided.{same_fault}
use Rattle.cr_notation.proofs.laws.a_text_has_one_first_fault.Goals as goal

pub returns : goal.returns
returns c = same_fault
