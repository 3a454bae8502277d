use Rattle.std.proofs.Common.{ℕ, ◌<◌, ◌-◌, length, inl, inr, refl, arith}
use Rattle.std.proofs.lemmas.Bool.{cases_lt}
use Rattle.cr_model.specs.Right.{LeadIsRight}
use Rattle.cr_model.proofs.Checking.{led_so_far, below_last}
use Rattle.cr_model.proofs.lead_checks.wrong_lead.Goals as goal

pub returns-then-methods_led-methods : goal.returns-then-methods_led-methods
returns-then-methods_led-methods c =
    let right : (i : ℕ) → i < length c.args.leads.now → LeadIsRight c.args.stage c.args.methods c.args.leads.now i = λ i h. c.loop-index.invariant i (omega arith) in
    inr (
      refl,
      right,
      (
        c.methods_led.result,
        c.if-methods_led-methods.true,
        λ i h e.
            let below = below_last _ _ _ right i h in
            let last = c.methods_led.ensures.last (omega arith) in
            omega arith,
      ),
    )

pub returns-else-methods_led-methods : goal.returns-else-methods_led-methods
returns-else-methods_led-methods c =
    let right : (i : ℕ) → i < length c.args.leads.now → LeadIsRight c.args.stage c.args.methods c.args.leads.now i = λ i h. c.loop-index.invariant i (omega arith) in
    let some : 0 < length c.args.leads.now =
    elim (cases_lt 0 (length c.args.leads.now)) [ inl more ↦ more | inr none ↦ let is = c.methods_led.ensures.none (omega arith) in omega arith ] in
    let last = c.methods_led.ensures.last some in
    record { some = some; each = right; led = λ method low. led_so_far _ _ _ right (length c.args.leads.now - 1) method (omega arith) (omega arith) }
