use Rattle.cr_notation.proofs.Decided.{not_both}
use Rattle.cr_notation.proofs.laws.no_text_is_taken_and_refused.Goals as goal

pub returns : goal.returns
returns c = not_both
