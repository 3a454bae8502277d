use Rattle.cr_store.proofs.Inputs.{one_input}
use Rattle.cr_store.proofs.laws.an_input_has_its_parts_alone.Goals as goal

pub returns : goal.returns
returns c = λ text bytes p found nodes other q founds rest few is also.
    one_input c.bytes_have_one_answer.ensures.one_checkpoint c.bytes_have_one_answer-2.ensures.one_problem text bytes p found nodes other q founds rest few is also
