-- Each slice was looked at by one call.
use Rattle.std.proofs.Common.{[], length, get_or, sym, ap, ◌∙◌, subst, arith}
use Rattle.std.specs.Prelude.{IfOk}
use Rattle.cr_model.specs.Checks.{TellsFirst}
use Rattle.cr_model.specs.Touches.{Kept}
use Rattle.cr_explore.specs.Slices.{first_told}
use Rattle.cr_explore.proofs.InSlices.{first_of_all}
use Rattle.cr_explore.proofs.in_threads.first_in_threads.Goals as goal

pub returns : goal.returns
returns g c =
    let touches = c.args.touches.now in
    let slices = c.in_ok-slices.slices.items in
    let told = c.in_ok-told.told.items in
    subst (λ r. IfOk r (TellsFirst (λ i. Kept c.args.tables.now (get_or touches i [])) (length touches))) (sym (c.first_of.ensures ∙ ap first_told c.deref.ensures.value))
    (first_of_all (λ i. Kept c.args.tables.now (get_or touches i [])) (length touches) slices told
    (omega (arith, c.in_ok-told.ensures.len, c.in_ok-told.told.ok.0, c.in_ok-slices.slices.ok.0))
    c.in_ok-slices.ensures.adjoin c.in_ok-slices.ensures.inside
    (λ i d inside. let h = (c.in_ok-told.ensures.each i d inside).1 in (h.job, h.job_is, h.call.met)))
