use Rattle.cr_notation.proofs.Decided.{some_answer}
use Rattle.cr_notation.proofs.laws.a_text_is_taken_or_refused.Goals as goal

pub returns : goal.returns
returns c = some_answer
