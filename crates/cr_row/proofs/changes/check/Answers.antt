use Rattle.std.proofs.Common.{get_or, refl, arith}
use Rattle.std.proofs.lemmas.Bool.{false≢true}
use Rattle.cr_row.proofs.CheckedPlaces.{checked_none, checked_more, no_fault, found}
use Rattle.cr_row.specs.declared.faults.PlaceFault.TheVariants.{Above}
use Rattle.cr_row.proofs.changes.check.Goals as goal

pub loop-place-init : goal.loop-place-init
loop-place-init c = checked_none c.args.stage c.args.places.now

pub loop-place-preserved : goal.loop-place-preserved
loop-place-preserved c =
    checked_more c.args.stage c.loop-place.before c.loop-place.place-index c.args.places.now (omega arith) (omega arith) (omega arith, omega arith) c.loop-place.invariant

pub returns-then-place-stage-clause-fault : goal.returns-then-place-stage-clause-fault
returns-then-place-stage-clause-fault c =
    found c.args.stage c.loop-place.before c.loop-place.place-index c.args.places.now _ (omega arith) (refl, omega arith) c.loop-place.invariant

pub returns-then-place-stage-clause-accepts : goal.returns-then-place-stage-clause-accepts
returns-then-place-stage-clause-accepts c =
    (λ h. absurd (false≢true h), λ change. absurd (no_fault c.args.stage 0 c.args.places.now (Above (get_or c.args.places.now c.loop-place.place-index 0)) (found c.args.stage c.loop-place.before c.loop-place.place-index c.args.places.now _ (omega arith) (refl, omega arith) c.loop-place.invariant) change))
