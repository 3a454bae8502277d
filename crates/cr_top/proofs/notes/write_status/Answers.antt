use Rattle.cr_top.proofs.notes.write_status.Goals as goal

pub returns-in-WriteFault-clause-written : goal.returns-in-WriteFault-clause-written
returns-in-WriteFault-clause-written g c = rw c.in-WriteFault.is c.write_line-in-WriteFault.ensures

pub returns-in-Stopped-clause-written : goal.returns-in-Stopped-clause-written
returns-in-Stopped-clause-written g c = rw c.in-Stopped.is c.write_line.ensures

pub returns-in-NotProblem-clause-written : goal.returns-in-NotProblem-clause-written
returns-in-NotProblem-clause-written g c = rw c.in-NotProblem.is c.write_line-in-NotProblem.ensures
