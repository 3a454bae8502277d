use Rattle.cr_top.proofs.notes.end_join.Goals as goal

pub returns-in-OtherProblem : goal.returns-in-OtherProblem
returns-in-OtherProblem g c = rw c.in-OtherProblem.is c.end_details.ensures
