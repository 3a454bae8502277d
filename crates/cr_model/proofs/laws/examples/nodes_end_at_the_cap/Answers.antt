use Rattle.std.proofs.Common.{◌≡◌, ◌<◌, ◌≤◌, [], ◌∷◌, map, refl, arith}
use Rattle.cr_model.specs.Callings.{length_of}
use Rattle.cr_model.specs.Queries.{extent, part_cap}
use Rattle.cr_model.specs.Examples.{pair, asks}
use Rattle.cr_model.specs.Nodes.{IsValid}
use Rattle.cr_model.proofs.Deciding.{has_steps_decided}
use Rattle.cr_model.proofs.laws.examples.nodes_end_at_the_cap.Goals as goal

-- the caps
caps : map (λ high. part_cap (pair (asks 1 high 3))) (24 ∷ 23 ∷ []) ≡ 8 ∷ 7 ∷ []
unfolding extent
caps = refl

cap_of_three : part_cap (pair (asks 1 24 3)) ≡ 8
unfolding extent
cap_of_three = refl

cap_below : part_cap (pair (asks 1 23 3)) ≡ 7
unfolding extent
cap_below = refl

cap_of_one : part_cap (pair (asks 1 24 1)) ≡ 24
unfolding extent
cap_of_one = refl

-- a node within a cap, and one above it
one_lead : IsValid (pair (asks 1 24 3)) (0 ∷ [])
one_lead = record { steps = (has_steps_decided (pair (asks 1 24 3)) (0 ∷ [])).0 refl; short = omega (arith, cap_of_three) }

too_long : IsValid (pair (asks 1 23 3)) (0 ∷ []) → ⊥
too_long valid = let short : length_of (pair (asks 1 23 3)) (0 ∷ []) ≤ part_cap (pair (asks 1 23 3)) = valid.short in absurd (omega (arith, cap_below))

two_leads : IsValid (pair (asks 1 24 1)) (2 ∷ 1 ∷ [])
two_leads = record { steps = (has_steps_decided (pair (asks 1 24 1)) (2 ∷ 1 ∷ [])).0 refl; short = omega (arith, cap_of_one) }

no_such_step : IsValid (pair (asks 1 24 1)) (2 ∷ 3 ∷ []) → ⊥
no_such_step valid = let three : 3 < 3 = valid.steps 1 0 (omega arith) in absurd (omega arith)

pub returns-clause-rounded_down : goal.returns-clause-rounded_down
returns-clause-rounded_down c = caps

pub returns-clause-at_the_cap : goal.returns-clause-at_the_cap
returns-clause-at_the_cap c = one_lead

pub returns-clause-above_the_cap : goal.returns-clause-above_the_cap
returns-clause-above_the_cap c = too_long

pub returns-clause-of_known_steps : goal.returns-clause-of_known_steps
returns-clause-of_known_steps c = two_leads

pub returns-clause-no_other_step : goal.returns-clause-no_other_step
returns-clause-no_other_step c = no_such_step
