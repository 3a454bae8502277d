use Rattle.cr_top.proofs.OneLog.{LogLaws, one_text}
use Rattle.cr_top.proofs.audit_laws.an_input_has_one_log.Goals as goal

pub returns : goal.returns
returns c =
    let laws : LogLaws = record {
      one_log = c.a_problem_has_one_log.ensures;
      one_list = c.all_logs_prove_one_list.ensures;
      one_problem = c.bytes_have_one_answer.ensures.one_problem;
    } in
    one_text laws
