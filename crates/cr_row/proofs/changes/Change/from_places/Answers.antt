use Rattle.std.proofs.Common.{◌≡◌, ◌+◌, ◌-◌, ◌∙◌, arith, ap, refl}
use Rattle.cr_row.specs.Masks.{stay_of, first_of, made_of}
use Rattle.cr_row.proofs.Masking.{masked, made_back}
use Rattle.cr_row.proofs.changes.Change.from_places.Goals as goal

pub invariant_of-result : goal.invariant_of-result
invariant_of-result c =
    let whole : c.number-stage.result + 1 - 1 ≡ c.number-stage.result = omega arith in
    masked c.number-stage.result c.masks-stay.result.0 c.masks-stay.result.1 c.args.places.now (omega arith) (omega arith)
    (c.in_ok-check.ensures.accepts.0 refl)
    (c.masks-stay.ensures.stay ∙ ap (λ n. stay_of n 1 c.args.places.now) whole)
    (c.masks-stay.ensures.first ∙ ap (λ n. first_of n 1 c.args.places.now) whole)

pub returns-clause-ok : goal.returns-clause-ok
returns-clause-ok c =
    let whole : c.number-stage.result + 1 - 1 ≡ c.number-stage.result = omega arith in
    let made : made_of c.number-stage.result 1 c.masks-stay.result.0 ≡ c.args.places.now =
    ap (made_of c.number-stage.result 1) (c.masks-stay.ensures.stay ∙ ap (λ n. stay_of n 1 c.args.places.now) whole)
    ∙ made_back c.number-stage.result c.args.places.now (c.in_ok-check.ensures.accepts.0 refl) in
    λ i. record { stage = c.number-stage.ensures.is i; made = made i }
