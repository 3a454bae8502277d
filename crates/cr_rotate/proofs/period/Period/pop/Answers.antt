use Rattle.std.proofs.Common.{◌≡◌, ◌-◌, length, take, subst, arith}
use Rattle.std.proofs.lemmas.List.{length-take-le, take-take}
use Rattle.cr_rotate.specs.Fronts.{IsKept}
use Rattle.cr_rotate.proofs.Kept.{cut}
use Rattle.cr_rotate.proofs.period.Period.pop.Goals as goal

pub invariant_of-self : goal.invariant_of-self
invariant_of-self c =
    let w = c.self.inside in
    let left = w.count - 1 in
    let long : length (take w.count w.steps.items) ≡ w.count = length-take-le w.count w.steps.items (omega (arith, c.self.invariant.1, c.self.invariant.3)) in (
      subst (λ steps. IsKept steps (take left w.periods.items)) (take-take left w.count w.steps.items (omega arith))
          (subst (IsKept (take left (take w.count w.steps.items))) (take-take left w.count w.periods.items (omega arith))
          (cut (take w.count w.steps.items) (take w.count w.periods.items) left c.self.invariant.0 (omega (arith, long)))),
      c.self.invariant.1,
      c.self.invariant.2,
      omega (arith, c.self.invariant.3),
    )
