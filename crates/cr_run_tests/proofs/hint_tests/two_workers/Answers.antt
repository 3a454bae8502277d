use Rattle.std.proofs.Common.{ℕ, ◌<◌, All, sym, subst}
use Rattle.cr_run.proofs.Returning.{within}
use Rattle.cr_run_tests.proofs.hint_tests.two_workers.Goals as goal

pub hints_of-requires-clause-lanes : goal.hints_of-requires-clause-lanes
hints_of-requires-clause-lanes g c =
    subst (λ (n : ℕ). All (λ e. e.lane < n) c.in_ok-lanes.ends.items) (sym c.in_ok-lanes.ensures.lanes)
    (within c.in_ok-lanes.ends.items 2 c.in_ok-lanes.ensures.numbers)
