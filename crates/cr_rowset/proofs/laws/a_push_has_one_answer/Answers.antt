use Rattle.cr_rowset.proofs.Answered.{one_answer}
use Rattle.cr_rowset.proofs.laws.a_push_has_one_answer.Goals as goal

pub returns : goal.returns
returns c = one_answer
