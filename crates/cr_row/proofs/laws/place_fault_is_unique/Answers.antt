use Rattle.cr_row.proofs.CheckedPlaces.{one_fault, no_fault}
use Rattle.cr_row.proofs.laws.place_fault_is_unique.Goals as goal

pub returns-clause-one : goal.returns-clause-one
returns-clause-one c = λ stage places f g one two. one_fault stage 0 places f g one two

pub returns-clause-none : goal.returns-clause-none
returns-clause-none c = λ stage places f fault change. no_fault stage 0 places f fault change
