use Rattle.cr_top.proofs.OneAudit.{AuditLaws, one_number, one_fault, one_problem, no_fault, a_problem, never_both}
use Rattle.cr_top.proofs.audit_laws.texts_have_one_audit.Goals as goal

pub returns : goal.returns
returns c =
    let laws : AuditLaws = record {
      numbers = c.an_audit_has_one_answer.ensures.number;
      faults = c.an_audit_has_one_answer.ensures.fault;
      apart = c.an_audit_has_one_answer.ensures.never_both;
      one_problem = c.bytes_have_one_answer.ensures.one_problem;
      one_fault = c.bytes_have_one_answer.ensures.one_fault;
      no_fault = c.bytes_have_one_answer.ensures.never_both;
      places = c.each_place_has_one_answer.ensures;
    } in
    record {
      one_number = one_number laws;
      one_fault = one_fault laws;
      one_problem = one_problem laws;
      no_fault = no_fault laws;
      a_problem = a_problem laws;
      never_both = never_both laws;
    }
