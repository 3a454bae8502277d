use Rattle.cr_model.proofs.OneFault.{sound_has_no_fault, one_part_fault}
use Rattle.cr_model.proofs.laws.problem_parts.parts_have_one_answer.Goals as goal

pub returns : goal.returns
returns c = record { sound = λ p fault right wrong. sound_has_no_fault p fault right wrong; single = λ p fault other one two. one_part_fault p fault other one two }
