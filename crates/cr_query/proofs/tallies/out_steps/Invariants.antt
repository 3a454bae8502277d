use Rattle.std.proofs.Common.{◌≡◌, ◌<◌, ℕ, take}
use Rattle.std.specs.List.{list_any}
use Rattle.cr_query.specs.Gauges.{raised, is_out, AreOf}
use Rattle.cr_query.specs.Sets.{has_step}
use Rattle.cr_query.specs.Tallies.{gauges_at}
use Rattle.cr_query.proofs.tallies.out_steps.Given as goal

abbrev pub invariant-loop-index : goal.invariant-loop-index
invariant-loop-index l = (step of : ℕ) → step < 32 → AreOf step of (gauges_at l.front l.tallies) l.sets
    → has_step l.steps step ≡ list_any (λ gauge. is_out l.more (raised of gauge)) (gauges_at l.front (take l.index l.tallies))
