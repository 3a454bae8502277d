-- Reading three blocks, one after another, and what an audit of them answers.
use Rattle.std.proofs.Common.{◌≡◌, ℕ, ◌+◌, ◌≤◌, ◌⊎◌, inl, inr, List, [], ◌∷◌, ◌++◌, length, drop, Option, Result, Ok, Err, refl, sym, ap, ◌∙◌, subst, arith, length-append, append_assoc}
use Rattle.std.specs.Prelude.{codes, IsErrAnd, MatchResult}
use Rattle.std.proofs.lemmas.List.{length-drop}
use Rattle.cr_audit.specs.Audits.{IsAuditFault, Audits}
use Rattle.cr_audit.specs.declared.fault.AuditFault.{AuditFault}
use Rattle.cr_audit.specs.declared.fault.AuditFault.TheVariants as fault
use Rattle.cr_model.specs.Problems.{ProblemParts}
use Rattle.cr_model.specs.Checkpoints.{number_line}
use Rattle.cr_model.specs.ProblemFiles.{ProblemFile}
use Rattle.cr_shard.specs.JoinFaults.{AreBodies}
use Rattle.cr_store.specs.Blocks.{IsNext}
use Rattle.cr_store.specs.declared.blocks.Next.{Next}
use Rattle.cr_store.specs.declared.blocks.Next.TheVariants as next
use Rattle.cr_shard.specs.Reads.{IsReadTo}
use Rattle.cr_top.specs.Audited.{IsLastAnswer, IsWrongPlace, NotThree, HasAnswer, IsAuditOf, audit_line}
use Rattle.cr_top.specs.Logged.{IsLogOf}
use Rattle.cr_top.specs.Streams.{Reading, Writing, WasRead, WasCutOff}
use Rattle.cr_top.specs.Endings.{EndsLog, EndsAudit, status_of}
use Rattle.cr_top.specs.Refused.{IsUnaudited, audit_refusal}
use Rattle.cr_top.specs.declared.refusal.Refusal.{Refusal}
use Rattle.cr_top.specs.declared.refusal.Refusal.TheVariants as refusal

-- a whole block is inside the text
pub block_fits : (text : List ℕ) (at place size : ℕ) → at ≤ length text → IsNext text at (next.Block place size) → place + size ≤ length text
block_fits text at place size within one =
    omega (arith, within, one.2, one.3, length-drop at text, ap length parts, length-append head (one.0 ++ one.1.rest), length-append one.0 one.1.rest)
  where
    head : List ℕ
    head = number_line (codes "block") (length one.0)

    parts : drop at text ≡ head ++ (one.0 ++ one.1.rest)
    parts = one.1.is ∙ append_assoc head one.0 one.1.rest

-- an answer behind blocks that were read tells that there are not three
pub told_wrong : (text : List ℕ) (at : ℕ) (bodies : List (List ℕ)) (read : IsReadTo text at bodies) (last : Next) → IsNext text at last
    → IsLastAnswer (length bodies) last → (place : ℕ) → IsWrongPlace (length bodies) at (length text) last place → NotThree text place
told_wrong text at bodies read last here asked place wrong = record {
  before = bodies;
  last = last;
  ends = record {
    are = read.are;
    rest = read.rest;
    is = read.is;
    here = subst (λ n. IsNext text n last) read.at_is here;
    asked = asked;
  };
  wrong = subst (λ n. IsWrongPlace (length bodies) n (length text) last place) read.at_is wrong;
}

-- fewer than three blocks were read, and the text is over there, or within the next block
pub over_early : (text : List ℕ) (at : ℕ) (bodies : List (List ℕ)) → IsReadTo text at bodies → length bodies ≤ 2
    → (IsNext text at next.End ⊎ IsNext text at next.Torn) → NotThree text (length text)
over_early text at bodies read few (inl ended) =
    told_wrong text at bodies read next.End ended (omega (arith, few)) (length text) (omega (arith, few), refl)
over_early text at bodies read few (inr torn) = told_wrong text at bodies read next.Torn torn (omega (arith, few)) (length text) refl

-- behind three blocks at most the text is over within the next one
pub torn_behind : (text : List ℕ) (at : ℕ) (bodies : List (List ℕ)) → IsReadTo text at bodies → length bodies ≤ 3
    → IsNext text at next.Torn → NotThree text (length text)
torn_behind text at bodies read few torn = told_wrong text at bodies read next.Torn torn few (length text) refl

-- or has a byte that cannot be
pub wrong_behind : (text : List ℕ) (at : ℕ) (bodies : List (List ℕ)) → IsReadTo text at bodies → length bodies ≤ 3
    → (place : ℕ) → IsNext text at (next.Form place) → NotThree text place
wrong_behind text at bodies read few place wrong = told_wrong text at bodies read (next.Form place) wrong few place refl

-- a fourth block
pub fourth_behind : (text : List ℕ) (at : ℕ) (bodies : List (List ℕ)) → IsReadTo text at bodies → length bodies ≡ 3
    → (place size : ℕ) → IsNext text at (next.Block place size) → NotThree text at
fourth_behind text at bodies read three place size one = told_wrong text at bodies read (next.Block place size) one three at refl

-- a place that tells that a text is not three blocks, as what reads it answers
pub told_as : {A : Type 0} (Right : A → Type 0) (text : List ℕ) (place : ℕ) → NotThree text place → (result : Result A ℕ)
    → IsErrAnd result (λ told. told ≡ place) → MatchResult result Right (NotThree text)
told_as Right text place not (Ok right) is = absurd is
told_as Right text place not (Err told) is = subst (NotThree text) (sym is) not

-- an answer of an audit on three blocks is one on their text
pub has_answer : (text bytes book log : List ℕ) (p : ProblemParts) (answer : Result ℕ AuditFault) → AreBodies text (bytes ∷ book ∷ log ∷ [])
    → ProblemFile bytes p → Audits p book log answer → HasAnswer text answer
has_answer text bytes book log p answer are file audits =
    record { bytes = bytes; book = book; log = log; are = are; p = p; file = file; audits = audits }

-- so is a fault, or there was not enough memory
pub unaudited : (text bytes book log : List ℕ) (p : ProblemParts) (why : AuditFault) → AreBodies text (bytes ∷ book ∷ log ∷ [])
    → ProblemFile bytes p → IsAuditFault p book log why → IsUnaudited text (audit_refusal why)
unaudited text bytes book log p (fault.Form place) are file is = absurd is
unaudited text bytes book log p (fault.Line number) are file is = has_answer text bytes book log p (Err (fault.Line number)) are file is
unaudited text bytes book log p (fault.Node number) are file is = has_answer text bytes book log p (Err (fault.Node number)) are file is
unaudited text bytes book log p (fault.Verdict number) are file is = has_answer text bytes book log p (Err (fault.Verdict number)) are file is
unaudited text bytes book log p (fault.Book place) are file is = has_answer text bytes book log p (Err (fault.Book place)) are file is
unaudited text bytes book log p fault.NoMemory are file is = tt

-- the line of an audit of which a front was written
module _ {S K : Type 0} (source : Reading S) (sink : Writing K) (input : List ℕ) (read : WasRead source input) where
  pub cut_off_audit : (number : ℕ) → IsAuditOf input number → WasCutOff sink (audit_line number) → (result : Result (Option ℕ) Refusal)
      → IsErrAnd result (λ why. why ≡ refusal.WriteFault) → EndsAudit source sink (status_of result)
  cut_off_audit number is cut (Ok after) told = absurd told
  cut_off_audit number is cut (Err why) told =
      subst (λ w. EndsAudit source sink (status_of (Err w))) (sym told) (input, number, read, is, cut)

  -- and a log
  pub cut_off_log : (text : List ℕ) → IsLogOf input text → WasCutOff sink text → (result : Result (Option ℕ) Refusal)
      → IsErrAnd result (λ why. why ≡ refusal.WriteFault) → EndsLog source sink (status_of result)
  cut_off_log text is cut (Ok after) told = absurd told
  cut_off_log text is cut (Err why) told = subst (λ w. EndsLog source sink (status_of (Err w))) (sym told) (input, text, read, is, cut)
