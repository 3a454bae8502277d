use Rattle.cr_board.proofs.Resigning.{resigned_twice}
use Rattle.cr_board.proofs.laws.a_second_resignation_changes_nothing.Goals as goal

pub returns : goal.returns
returns c = resigned_twice
