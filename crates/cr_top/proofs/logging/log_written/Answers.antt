use Rattle.cr_top.proofs.AuditReads.{cut_off_log}
use Rattle.cr_top.proofs.logging.log_written.Goals as goal

pub returns-in_err-write_whole-clause-ends : goal.returns-in_err-write_whole-clause-ends
returns-in_err-write_whole-clause-ends g c =
    cut_off_log _ _ c.in_ok-input.input.items c.in_ok-input.ensures.reads c.in_ok-text.text.items
    (rw c.deref.ensures.value at c.in_ok-text.ensures)
    (record { front = rw c.deref-2.ensures.value at c.in_err-write_whole.ensures.front; rose = c.in_err-write_whole.ensures.fault })
    c.from_residual-in_err-write_whole.result c.from_residual-in_err-write_whole.ensures.1
