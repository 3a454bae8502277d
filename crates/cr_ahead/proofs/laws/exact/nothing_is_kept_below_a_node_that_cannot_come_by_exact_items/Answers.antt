use Rattle.cr_ahead.proofs.Exact.{exact_come, none_below_exact}
use Rattle.cr_ahead.proofs.laws.exact.nothing_is_kept_below_a_node_that_cannot_come_by_exact_items.Goals as goal

pub returns : goal.returns
returns c = record { all = exact_come; is = none_below_exact c.joined_callings_multiply.ensures.head }
