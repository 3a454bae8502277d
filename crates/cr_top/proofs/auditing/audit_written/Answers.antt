use Rattle.cr_top.proofs.AuditReads.{cut_off_audit}
use Rattle.cr_top.proofs.auditing.audit_written.Goals as goal

pub returns-in_err-write_whole-clause-ends : goal.returns-in_err-write_whole-clause-ends
returns-in_err-write_whole-clause-ends g c =
    cut_off_audit _ _ c.in_ok-text.text.items c.in_ok-text.ensures.reads c.in_ok-number.number
    (rw c.deref.ensures.value at c.in_ok-number.ensures)
    (record { front = rw (c.deref-2.ensures.value, c.in_ok-line.ensures) at c.in_err-write_whole.ensures.front; rose = c.in_err-write_whole.ensures.fault })
    c.from_residual-in_err-write_whole.result c.from_residual-in_err-write_whole.ensures.1

pub returns-clause-ends : goal.returns-clause-ends
returns-clause-ends g c = (
  c.in_ok-text.text.items,
  c.in_ok-number.number,
  c.in_ok-text.ensures.reads,
  rw c.deref.ensures.value at c.in_ok-number.ensures,
  record { grew = rw (c.deref-2.ensures.value, c.in_ok-line.ensures) at c.in_ok-write_whole.ensures.whole; calm = c.in_ok-write_whole.ensures.same },
)
