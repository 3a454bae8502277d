use Rattle.std.proofs.Common.{◌≡◌, ◌+◌, ◌<◌, ◌++◌, ◌∷◌, [], List, ℕ, length, take, slice_set, sym, ◌∙◌, subst, arith}
use Rattle.std.proofs.lemmas.List.{length-take-le, length-set, take_more_set}
use Rattle.cr_rotate.specs.Fronts.{IsKept, Tells}
use Rattle.cr_rotate.proofs.Kept.{one_more}
use Rattle.cr_rotate.proofs.period.Period.push.Goals as goal

pub invariant_of-self : goal.invariant_of-self
invariant_of-self c =
    let w = c.self.inside in
    let word = take w.count w.steps.items in
    let step = c.args.step in
    let period = c.next_period-period.result in
    let few : length word < 1024 = subst (λ (steps : List ℕ). length steps < 1024) (sym c.self.view_is) c.requires in
    let long : length word ≡ w.count = length-take-le w.count w.steps.items (omega (arith, c.self.invariant.1, c.self.invariant.3)) in
    let told : Tells (word ++ step ∷ []) (length word + 1) period =
    subst (λ (steps : List ℕ). Tells (steps ++ step ∷ []) (length steps + 1) period) (c.steps.ensures.is ∙ sym c.self.view_is) c.next_period-period.ensures in (
      subst (λ steps. IsKept steps (take (w.count + 1) (slice_set w.periods.items w.count period))) (sym (take_more_set w.steps.items w.count step (omega (arith, c.self.invariant.1, few, long))))
          (subst (IsKept (word ++ step ∷ [])) (sym (take_more_set w.periods.items w.count period (omega (arith, c.self.invariant.2, few, long))))
          (one_more word (take w.count w.periods.items) step period c.self.invariant.0 few told)),
      length-set w.steps.items w.count step ∙ c.self.invariant.1,
      length-set w.periods.items w.count period ∙ c.self.invariant.2,
      omega (arith, few, long),
    )
