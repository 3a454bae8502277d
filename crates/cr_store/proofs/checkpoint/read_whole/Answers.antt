-- The lines are checked once it is known which touch is not kept.
use Rattle.std.proofs.Common.{length, All, sym, subst}
use Rattle.cr_model.specs.Callings.{HasSteps}
use Rattle.cr_model.specs.Checks.{TellsFirst}
use Rattle.cr_store.specs.Faults.{IsKeptAt}
use Rattle.cr_store.proofs.checkpoint.read_whole.Goals as goal

pub first_unkept-requires : goal.first_unkept-requires
first_unkept-requires c = subst (All (HasSteps c.in_ok-lines.lines.problem)) (sym c.deref.ensures.value) c.in_ok-lines.ensures.outlined.touches_known

pub checked-requires-clause-unkept : goal.checked-requires-clause-unkept
checked-requires-clause-unkept c =
    subst (λ found. TellsFirst (IsKeptAt c.in_ok-lines.lines.problem found) (length found) c.in_ok-unkept.unkept) c.deref.ensures.value c.in_ok-unkept.ensures

pub returns : goal.returns
returns c = c.checked.ensures c.args.bytes.now c.in_ok-lines.ensures
