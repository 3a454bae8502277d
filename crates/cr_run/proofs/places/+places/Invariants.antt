-- Each call of the cycle has fewer places.
use Prim.Native.Nat.{◌+◌, ◌*◌}
use Rattle.std.specs.Prelude.{length}
use Rattle.cr_run.proofs.places.+places.Given as goal

abbrev pub decreases-work_at_all : goal.decreases-work_at_all
decreases-work_at_all g l = 4 * length l.places.now

abbrev pub decreases-work_beside : goal.decreases-work_beside
decreases-work_beside g l = 4 * length l.others.now + 2

abbrev pub decreases-work_beside-back : goal.decreases-work_beside-back
decreases-work_beside-back g l = 4 * length l.others.now + 1
