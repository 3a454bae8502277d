use Rattle.cr_row.proofs.Inverses.{IsRow-inverse, inverse_one}
use Rattle.cr_row.proofs.laws.inverse_is_unique.Goals as goal

pub returns-clause-row : goal.returns-clause-row
returns-clause-row c = λ h r row undone. IsRow-inverse h r row undone

pub returns-clause-one : goal.returns-clause-one
returns-clause-one c = λ h r s row one two. inverse_one h r s row one two
