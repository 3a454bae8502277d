use Rattle.std.proofs.Common.{Ok, sym, subst}
use Rattle.cr_top.specs.Refused.{IsUnaudited}
use Rattle.cr_top.proofs.AuditReads.{has_answer, unaudited}
use Rattle.cr_top.proofs.auditing.audited_by.Goals as goal

pub returns-in-Ok : goal.returns-in-Ok
returns-in-Ok c = λ text are. has_answer text _ _ _ c.args.problem.now (Ok c.in-Ok.number) are c.requires c.in-Ok.ensures

pub returns-in-Err : goal.returns-in-Err
returns-in-Err c = λ text are. subst (IsUnaudited text) (sym c.audit_refusal_for.ensures)
    (unaudited text _ _ _ c.args.problem.now c.in-Err.fault are c.requires c.in-Err.ensures)
