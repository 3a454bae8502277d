use Rattle.std.proofs.Common.{ℕ, ◌+◌, List, subst, sym}
use Rattle.cr_false.specs.Telling.{AreSome}
use Rattle.cr_false.proofs.SomeRows.{AreSoFar, one_more}
use Rattle.cr_false.proofs.telling.TellingRows.some.Goals as goal

pub loop-step-preserved : goal.loop-step-preserved
loop-step-preserved c =
    let table = c.args.leads.now in
    let step = c.loop-step.step in
    let rows = c.in_ok-some_rows.field-0 in
    subst (λ (told : List (List (List ℕ))). AreSoFar table told (step + 1)) (sym c.in_ok-push.ensures.items)
    (one_more table c.loop-step.told.items step rows c.loop-step.invariant
    (subst (λ (all : List (List ℕ)). AreSome all rows) c.rows_of-rows.ensures.is c.in_ok-some_rows.ensures))
