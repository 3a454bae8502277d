use Rattle.cr_leads.proofs.Touches.{sound_touch}
use Rattle.cr_leads.proofs.laws.a_true_touch_comes_round_with_distinct_rows.Goals as goal

pub returns : goal.returns
returns c = sound_touch
