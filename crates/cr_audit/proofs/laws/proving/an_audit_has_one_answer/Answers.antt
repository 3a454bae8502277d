use Rattle.cr_audit.proofs.OneFault.{one_fault, no_fault, one_number}
use Rattle.cr_audit.proofs.laws.proving.an_audit_has_one_answer.Goals as goal

pub returns : goal.returns
returns c = record {
  number = λ p book log m n sound. one_number p sound log book (λ touches others. c.all_logs_prove_one_list.ensures p log log touches others sound) m n;
  fault = λ p book log why other sound. one_fault p sound log book (λ touches others. c.all_logs_prove_one_list.ensures p log log touches others sound) why other;
  never_both = λ p book log number why sound. no_fault p sound log book (λ touches others. c.all_logs_prove_one_list.ensures p log log touches others sound) number why;
}
