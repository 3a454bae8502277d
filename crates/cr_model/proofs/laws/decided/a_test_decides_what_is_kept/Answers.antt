use Rattle.cr_model.proofs.KeptTest.{is_kept_decided}
use Rattle.cr_model.proofs.laws.decided.a_test_decides_what_is_kept.Goals as goal

pub returns : goal.returns
returns c = is_kept_decided
