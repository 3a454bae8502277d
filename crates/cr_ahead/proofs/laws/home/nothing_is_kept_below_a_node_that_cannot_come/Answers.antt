use Rattle.cr_ahead.proofs.Kept.{none_without_way, none_below}
use Rattle.cr_ahead.proofs.laws.home.nothing_is_kept_below_a_node_that_cannot_come.Goals as goal

pub returns : goal.returns
returns c = record { no_way = none_without_way c.joined_callings_multiply.ensures.head; is = none_below c.joined_callings_multiply.ensures.head }
