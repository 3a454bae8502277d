use Rattle.cr_ahead.proofs.Exact.{exact_within}
use Rattle.cr_ahead.proofs.laws.exact.exact_items_are_asked.Goals as goal

pub returns : goal.returns
returns c = exact_within
