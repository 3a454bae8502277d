use Rattle.cr_notation.proofs.Decided.{same_changes}
use Rattle.cr_notation.proofs.laws.a_text_spells_one_list.Goals as goal

pub returns : goal.returns
returns c = same_changes
