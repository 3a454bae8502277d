-- none before is refused
use Rattle.std.proofs.Common.{◌≡◌, ℕ, ◌<◌, false}
use Rattle.cr_ahead.specs.Outlooks.{is_refused_at}
use Rattle.cr_ahead.proofs.outlook.some_is_refused.Given as goal

abbrev pub invariant-loop-index : goal.invariant-loop-index
invariant-loop-index l = (i : ℕ) → i < l.index → is_refused_at l.parts l.place l.units l.items l.so_far i ≡ false
