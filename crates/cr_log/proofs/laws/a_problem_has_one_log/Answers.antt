use Rattle.std.proofs.Common.{[], ◌∷◌}
use Rattle.cr_log.proofs.OneFirst.{one_log}
use Rattle.cr_log.proofs.laws.a_problem_has_one_log.Goals as goal

pub returns : goal.returns
returns c = λ p lines others one other. one_log p ([] ∷ []) lines others one.whole other.whole one.first other.first
