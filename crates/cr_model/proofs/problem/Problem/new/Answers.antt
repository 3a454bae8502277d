use Rattle.cr_model.proofs.OneFault.{refused}
use Rattle.cr_model.proofs.problem.Problem.new.Goals as goal

pub returns-in-Err-clause-fault : goal.returns-in-Err-clause-fault
returns-in-Err-clause-fault c = rw (c.deref.ensures.value, c.deref-2.ensures.value) at c.in-Err.ensures

pub returns-in-Err-clause-accepts : goal.returns-in-Err-clause-accepts
returns-in-Err-clause-accepts c = refused _ c.in-Err.fault (rw (c.deref.ensures.value, c.deref-2.ensures.value) at c.in-Err.ensures)
