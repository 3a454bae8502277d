use Rattle.cr_top.proofs.notes.end_problem.Goals as goal

pub returns-in-CallLength : goal.returns-in-CallLength
returns-in-CallLength g c = rw c.in-CallLength.is c.end_details.ensures

pub returns-in-NoMemory : goal.returns-in-NoMemory
returns-in-NoMemory g c = rw c.in-NoMemory.is c.end_fault-in-NoMemory.ensures
