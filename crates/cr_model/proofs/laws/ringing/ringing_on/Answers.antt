use Rattle.cr_model.proofs.Ringing.{rows_on, lengths_on, head_on}
use Rattle.cr_model.proofs.laws.ringing.ringing_on.Goals as goal

pub returns : goal.returns
returns c = record { rows = rows_on; lengths = lengths_on; head = head_on }
