use Rattle.cr_model.proofs.Deciding.{rows_differ_decided, is_true_touch_decided}
use Rattle.cr_model.proofs.laws.decided.a_test_decides_what_is_true.Goals as goal

pub returns : goal.returns
returns c = record { rows = rows_differ_decided; touch = is_true_touch_decided }
