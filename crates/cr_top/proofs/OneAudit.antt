-- A text has one answer of an audit at most.
use Rattle.std.proofs.Common.{◌≡◌, ◌≢◌, ℕ, List, [], ◌∷◌, get_or, Result, Ok, Err, ap, subst}
use Rattle.cr_model.specs.Problems.{ProblemParts}
use Rattle.cr_model.specs.Sound.{IsSound}
use Rattle.cr_model.specs.ProblemFiles.{ProblemFile, FirstProblemFault}
use Rattle.cr_model.specs.declared.file_fault.ProblemFault.{ProblemFault}
use Rattle.cr_audit.specs.Audits.{IsAudited, IsAuditFault, Audits}
use Rattle.cr_audit.specs.declared.fault.AuditFault.{AuditFault}
use Rattle.cr_audit.specs.declared.fault.AuditFault.TheVariants as fault
use Rattle.cr_trail.proofs.Cutting.{OneAnswer}
use Rattle.cr_top.specs.Audited.{HasAnswer, IsAuditOf, FirstAuditFault, HasNoProblem, NotThree}
use Rattle.cr_top.proofs.AuditBlocks.{one_three, three_or_not, one_place}

-- what the laws on audits, problem files and blocks say
pub record AuditLaws : Type 0 where
  pub numbers : (p : ProblemParts) (book log : List ℕ) (m n : ℕ) → IsSound p → IsAudited p book log m → IsAudited p book log n → m ≡ n
  pub faults : (p : ProblemParts) (book log : List ℕ) (why other : AuditFault) → IsSound p → why ≢ fault.NoMemory → other ≢ fault.NoMemory
      → IsAuditFault p book log why → IsAuditFault p book log other → why ≡ other
  pub apart : (p : ProblemParts) (book log : List ℕ) (number : ℕ) (why : AuditFault) → IsSound p → IsAudited p book log number
      → why ≢ fault.NoMemory → IsAuditFault p book log why → ⊥
  pub one_problem : (bytes : List ℕ) (one other : ProblemParts) → ProblemFile bytes one → ProblemFile bytes other → one ≡ other
  pub one_fault : (bytes : List ℕ) (one other : ProblemFault) → FirstProblemFault bytes one → FirstProblemFault bytes other → one ≡ other
  pub no_fault : (bytes : List ℕ) (p : ProblemParts) (why : ProblemFault) → ProblemFile bytes p → FirstProblemFault bytes why → ⊥
  pub places : OneAnswer

-- a fault that the audit itself tells
abbrev IsOfAudit : AuditFault → Type 0
IsOfAudit (fault.Form place) = ⊥
IsOfAudit (fault.Line number) = Unit {0}
IsOfAudit (fault.Node number) = Unit {0}
IsOfAudit (fault.Verdict number) = Unit {0}
IsOfAudit (fault.Book place) = Unit {0}
IsOfAudit fault.NoMemory = ⊥

some_memory : (why : AuditFault) → IsOfAudit why → why ≢ fault.NoMemory
some_memory why of is = subst IsOfAudit is of

module _ (laws : AuditLaws) (text : List ℕ) where
  -- two answers on one text are on one problem, book and log
  as_other : (a b : Result ℕ AuditFault) (one : HasAnswer text a) (other : HasAnswer text b) → Audits other.p other.book other.log a
  as_other a b one other =
      subst (λ (l : List ℕ). Audits other.p other.book l a) logs (subst (λ (k : List ℕ). Audits other.p k one.log a) books
      (subst (λ (p : ProblemParts). Audits p one.book one.log a) problem one.audits))
    where
      same : (one.bytes ∷ one.book ∷ one.log ∷ []) ≡ (other.bytes ∷ other.book ∷ other.log ∷ [])
      same = one_three laws.places text one.bytes one.book one.log other.bytes other.book other.log one.are other.are

      files : one.bytes ≡ other.bytes
      files = ap (λ (bodies : List (List ℕ)). get_or bodies 0 []) same

      books : one.book ≡ other.book
      books = ap (λ (bodies : List (List ℕ)). get_or bodies 1 []) same

      logs : one.log ≡ other.log
      logs = ap (λ (bodies : List (List ℕ)). get_or bodies 2 []) same

      problem : one.p ≡ other.p
      problem = laws.one_problem other.bytes one.p other.p (subst (λ (b : List ℕ). ProblemFile b one.p) files one.file) other.file

  pub one_number : (number other : ℕ) → IsAuditOf text number → IsAuditOf text other → number ≡ other
  one_number number other one two =
      laws.numbers two.p two.book two.log number other two.file.sound (as_other (Ok number) (Ok other) one two) two.audits

  yes_or_fault : (number : ℕ) (why : AuditFault) → IsOfAudit why → IsAuditOf text number → HasAnswer text (Err why) → ⊥
  yes_or_fault number why of one two =
      laws.apart two.p two.book two.log number why two.file.sound (as_other (Ok number) (Err why) one two) (some_memory why of) two.audits

  one_of_audit : (why other : AuditFault) → IsOfAudit why → IsOfAudit other → HasAnswer text (Err why) → HasAnswer text (Err other) → why ≡ other
  one_of_audit why other of also one two =
      laws.faults two.p two.book two.log why other two.file.sound (some_memory why of) (some_memory other also) (as_other (Err why) (Err other) one two) two.audits

  form_or_answer : (place : ℕ) (answer : Result ℕ AuditFault) → NotThree text place → HasAnswer text answer → ⊥
  form_or_answer place answer not has = three_or_not laws.places text has.bytes has.book has.log place has.are not

  -- a fault beside that of the form is one of the audit on the three blocks
  told : (why : AuditFault) → IsOfAudit why → FirstAuditFault text why → HasAnswer text (Err why)
  told (fault.Form place) of is = absurd of
  told (fault.Line number) of is = is
  told (fault.Node number) of is = is
  told (fault.Verdict number) of is = is
  told (fault.Book place) of is = is
  told fault.NoMemory of is = absurd of

  form_first : (place : ℕ) (other : AuditFault) → NotThree text place → FirstAuditFault text other → fault.Form place ≡ other
  form_first place (fault.Form also) not is = ap fault.Form (one_place laws.places text place also not is)
  form_first place (fault.Line number) not is = absurd (form_or_answer place (Err (fault.Line number)) not is)
  form_first place (fault.Node number) not is = absurd (form_or_answer place (Err (fault.Node number)) not is)
  form_first place (fault.Verdict number) not is = absurd (form_or_answer place (Err (fault.Verdict number)) not is)
  form_first place (fault.Book at) not is = absurd (form_or_answer place (Err (fault.Book at)) not is)
  form_first place fault.NoMemory not is = absurd is

  then_first : (why other : AuditFault) → IsOfAudit why → HasAnswer text (Err why) → FirstAuditFault text other → why ≡ other
  then_first why (fault.Form place) of has is = absurd (form_or_answer place (Err why) is has)
  then_first why (fault.Line number) of has is = one_of_audit why (fault.Line number) of tt has is
  then_first why (fault.Node number) of has is = one_of_audit why (fault.Node number) of tt has is
  then_first why (fault.Verdict number) of has is = one_of_audit why (fault.Verdict number) of tt has is
  then_first why (fault.Book place) of has is = one_of_audit why (fault.Book place) of tt has is
  then_first why fault.NoMemory of has is = absurd is

  pub one_fault : (why other : AuditFault) → FirstAuditFault text why → FirstAuditFault text other → why ≡ other
  one_fault (fault.Form place) other is also = form_first place other is also
  one_fault (fault.Line number) other is also = then_first (fault.Line number) other tt is also
  one_fault (fault.Node number) other is also = then_first (fault.Node number) other tt is also
  one_fault (fault.Verdict number) other is also = then_first (fault.Verdict number) other tt is also
  one_fault (fault.Book place) other is also = then_first (fault.Book place) other tt is also
  one_fault fault.NoMemory other is also = absurd is

  pub no_fault : (number : ℕ) (why : AuditFault) → IsAuditOf text number → FirstAuditFault text why → ⊥
  no_fault number (fault.Form place) has is = form_or_answer place (Ok number) is has
  no_fault number (fault.Line at) has is = yes_or_fault number (fault.Line at) tt has is
  no_fault number (fault.Node at) has is = yes_or_fault number (fault.Node at) tt has is
  no_fault number (fault.Verdict at) has is = yes_or_fault number (fault.Verdict at) tt has is
  no_fault number (fault.Book place) has is = yes_or_fault number (fault.Book place) tt has is
  no_fault number fault.NoMemory has is = absurd is

  -- the first of three blocks, where it is no problem
  first_is : (x y z u v w : List ℕ) → (x ∷ y ∷ z ∷ []) ≡ (u ∷ v ∷ w ∷ []) → x ≡ u
  first_is x y z u v w same = ap (λ (bodies : List (List ℕ)). get_or bodies 0 []) same

  pub one_problem : (why other : ProblemFault) → HasNoProblem text why → HasNoProblem text other → why ≡ other
  one_problem why other one two =
      let same = first_is one.bytes one.book one.log two.bytes two.book two.log
      (one_three laws.places text one.bytes one.book one.log two.bytes two.book two.log one.are two.are) in
      laws.one_fault two.bytes why other (subst (λ (b : List ℕ). FirstProblemFault b why) same one.wrong) two.wrong

  problem_or_answer : (answer : Result ℕ AuditFault) (why : ProblemFault) → HasAnswer text answer → HasNoProblem text why → ⊥
  problem_or_answer answer why one two =
      let same = first_is one.bytes one.book one.log two.bytes two.book two.log
      (one_three laws.places text one.bytes one.book one.log two.bytes two.book two.log one.are two.are) in
      laws.no_fault two.bytes one.p why (subst (λ (b : List ℕ). ProblemFile b one.p) same one.file) two.wrong

  pub a_problem : (number : ℕ) (why : ProblemFault) → IsAuditOf text number → HasNoProblem text why → ⊥
  a_problem number why has none = problem_or_answer (Ok number) why has none

  pub never_both : (why : AuditFault) (other : ProblemFault) → FirstAuditFault text why → HasNoProblem text other → ⊥
  never_both (fault.Form place) other is none = three_or_not laws.places text none.bytes none.book none.log place none.are is
  never_both (fault.Line number) other is none = problem_or_answer (Err (fault.Line number)) other is none
  never_both (fault.Node number) other is none = problem_or_answer (Err (fault.Node number)) other is none
  never_both (fault.Verdict number) other is none = problem_or_answer (Err (fault.Verdict number)) other is none
  never_both (fault.Book place) other is none = problem_or_answer (Err (fault.Book place)) other is none
  never_both fault.NoMemory other is none = absurd is
