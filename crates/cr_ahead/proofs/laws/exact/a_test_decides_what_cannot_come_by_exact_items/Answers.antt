use Rattle.cr_ahead.proofs.Exact.{exact_decided}
use Rattle.cr_ahead.proofs.laws.exact.a_test_decides_what_cannot_come_by_exact_items.Goals as goal

pub returns : goal.returns
returns c = exact_decided
