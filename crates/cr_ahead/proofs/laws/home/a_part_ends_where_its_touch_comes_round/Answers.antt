use Rattle.cr_ahead.proofs.Powers.{repeated_head, ends_by_heads}
use Rattle.cr_ahead.proofs.laws.home.a_part_ends_where_its_touch_comes_round.Goals as goal

pub returns : goal.returns
returns c = record { power = repeated_head c.joined_callings_multiply.ensures.head; end = ends_by_heads c.joined_callings_multiply.ensures.head }
