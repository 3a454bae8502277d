use Rattle.cr_ahead.proofs.Kept.{comes_home}
use Rattle.cr_ahead.proofs.laws.home.a_kept_touch_comes_home.Goals as goal

pub returns : goal.returns
returns c = comes_home c.joined_callings_multiply.ensures.head
