use Rattle.cr_trail.proofs.Inputs.{is_trail}
use Rattle.cr_trail.proofs.laws.a_trail_of_what_an_input_says.Goals as goal

pub returns : goal.returns
returns c = is_trail c.checkpoints_begin_as_such.ensures
