use Rattle.std.proofs.Common.{◌≡◌, Ok, Err}
use Rattle.cr_model.specs.Problems.{ProblemParts}
use Rattle.cr_model.specs.declared.file_fault.ProblemFault.{ProblemFault}
use Rattle.cr_read.proofs.OneAnswer.{Verdict, one_answer}
use Rattle.cr_read.proofs.laws.bytes_have_one_answer.Goals as goal

same_problem : (p q : ProblemParts) → ◌≡◌ {A = Verdict} (Ok p) (Ok q) → p ≡ q
same_problem p q is = cc

same_fault : (p q : ProblemFault) → ◌≡◌ {A = Verdict} (Err p) (Err q) → p ≡ q
same_fault p q is = cc

not_both : (p : ProblemParts) (q : ProblemFault) → ◌≡◌ {A = Verdict} (Ok p) (Err q) → ⊥
not_both p q is = absurd (cc)

pub returns : goal.returns
returns c =
    let one = one_answer c.a_text_spells_one_list.ensures c.a_text_has_one_first_fault.ensures c.no_text_is_taken_and_refused.ensures in
    record {
      one_problem = λ bytes p q a b. same_problem p q (one bytes (Ok p) (Ok q) a b);
      one_fault = λ bytes p q a b. same_fault p q (one bytes (Err p) (Err q) a b);
      never_both = λ bytes p q a b. not_both p q (one bytes (Ok p) (Err q) a b);
    }
