use Rattle.cr_trail.proofs.Going.{some_nodes}
use Rattle.cr_top.proofs.OneAnswer.{one_size, is_sound, no_problem_fault, no_check_fault, one_problem_fault, one_check_fault}
use Rattle.cr_top.proofs.answers.inputs_have_one_answer.Goals as goal

pub returns : goal.returns
returns c = λ input. record {
  size = λ short bytes p found nodes others other q these. one_size input c.an_input_has_its_parts_alone.ensures short bytes p found nodes other q others these;
  some = λ bytes p found nodes is. some_nodes p (is_sound input bytes p found nodes is) c.sizes_are_sums.ensures.node c.sizes_are_sums.ensures.first c.sizes_are_sums.ensures.none;
  no_problem_fault = no_problem_fault input c.bytes_have_one_answer.ensures.never_both;
  no_check_fault = no_check_fault input c.bytes_have_one_answer-2.ensures.never_both;
  one_problem_fault = one_problem_fault input c.bytes_have_one_answer.ensures.one_fault;
  one_check_fault = one_check_fault input c.bytes_have_one_answer-2.ensures.one_fault;
}
