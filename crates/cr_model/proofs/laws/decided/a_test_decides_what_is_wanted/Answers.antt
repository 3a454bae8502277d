use Rattle.cr_model.proofs.Deciding.{has_steps_decided, meets_decided, is_wanted_decided}
use Rattle.cr_model.proofs.laws.decided.a_test_decides_what_is_wanted.Goals as goal

pub returns : goal.returns
returns c = record { steps = has_steps_decided; query = meets_decided; wanted = is_wanted_decided }
