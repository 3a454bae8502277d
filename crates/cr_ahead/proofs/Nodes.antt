-- Ways through a node.
use Rattle.std.proofs.Common.{◌≡◌, ℕ, ◌+◌, ◌<◌, ◌≤◌, ◌↔◌, List, [], ◌∷◌, ◌++◌, Option, Some, None, IsNone, IfSome, sym, subst, arith, rules, add_assoc}
use Rattle.std.specs.List.{All}
use Rattle.std.proofs.lemmas.List.Elements.{All-nil, All-cons, All-head, All-tail}
use Rattle.cr_ahead.specs.declared.gains.Gains.{Gains}
use Rattle.cr_ahead.specs.Moves.{MovesParts, steps_of, next_place, step_length}
use Rattle.cr_ahead.specs.Ways.{place_after, length_of, gain_of, IsWay, HasNoWay, IsLeastGain, IsGreatestGain, IsAnswer}
use Rattle.cr_ahead.proofs.Steps.{way_on, way_before}

-- the rest of a way is one
pub rest_is_way : (m : MovesParts) (least greatest place long : ℕ) (node rest : List ℕ) → IsWay m least greatest place long (node ++ rest)
    → All (λ step. step < steps_of m) node × IsWay m least greatest (place_after m place node) (long + length_of m node) rest
rest_is_way m least greatest place long [] rest way =
    (All-nil (λ step. step < steps_of m), record { are_steps = way.are_steps; at_end = way.at_end; at_least = omega (arith, way.at_least); at_most = omega (arith, way.at_most) })
rest_is_way m least greatest place long (step ∷ node) rest way =
    let on = rest_is_way m least greatest (next_place m place step) (long + step_length m step) node rest
    (way_on m least greatest place long step (node ++ rest) way) in (
      All-cons (λ s. s < steps_of m) step node (All-head (λ s. s < steps_of m) step (node ++ rest) way.are_steps) on.0,
      subst (λ (n : ℕ). IsWay m least greatest (place_after m (next_place m place step) node) n rest) (add_assoc long (step_length m step) (length_of m node)) on.1,
    )

pub way_of_rest : (m : MovesParts) (least greatest place long : ℕ) (node rest : List ℕ) → All (λ step. step < steps_of m) node
    → IsWay m least greatest (place_after m place node) (long + length_of m node) rest → IsWay m least greatest place long (node ++ rest)
way_of_rest m least greatest place long [] rest are way =
    record { are_steps = way.are_steps; at_end = way.at_end; at_least = omega (arith, way.at_least); at_most = omega (arith, way.at_most) }
way_of_rest m least greatest place long (step ∷ node) rest are way =
    way_before m least greatest place long step (node ++ rest) (All-head (λ s. s < steps_of m) step node are)
    (way_of_rest m least greatest (next_place m place step) (long + step_length m step) node rest (All-tail (λ s. s < steps_of m) step node are)
    (subst (λ (n : ℕ). IsWay m least greatest (place_after m (next_place m place step) node) n rest) (sym (add_assoc long (step_length m step) (length_of m node))) way))

-- gains add up
pub gain_joined : (m : MovesParts) (place : ℕ) (node rest : List ℕ) → gain_of m place (node ++ rest) ≡ gain_of m place node + gain_of m (place_after m place node) rest
gain_joined m place [] rest = omega arith
gain_joined m place (step ∷ node) rest = omega (arith, gain_joined m (next_place m place step) node rest)

-- the cuts
pub too_much : (m : MovesParts) (least greatest place long low most : ℕ) (node : List ℕ)
    → IsLeastGain m least greatest (place_after m place node) (long + length_of m node) low → most < gain_of m place node + low
    → (rest : List ℕ) → IsWay m least greatest place long (node ++ rest) → most < gain_of m place (node ++ rest)
too_much m least greatest place long low most node is over rest way =
    let on = rest_is_way m least greatest place long node rest way in
    omega (arith, gain_joined m place node rest, is.no_less rest on.1)

pub too_little : (m : MovesParts) (least greatest place long high fewest : ℕ) (node : List ℕ)
    → IsGreatestGain m least greatest (place_after m place node) (long + length_of m node) high → gain_of m place node + high < fewest
    → (rest : List ℕ) → IsWay m least greatest place long (node ++ rest) → gain_of m place (node ++ rest) < fewest
too_little m least greatest place long high fewest node is under rest way =
    let on = rest_is_way m least greatest place long node rest way in
    omega (arith, gain_joined m place node rest, is.no_more rest on.1)

-- None and no way
pub none_both : (m : MovesParts) (least greatest place long : ℕ) (gains : Option Gains) → IsAnswer m least greatest place long gains
    → IsNone gains ↔ HasNoWay m least greatest place long
none_both m least greatest place long None is = (λ h. is, λ h. search rules)
none_both m least greatest place long (Some g) is = (λ h. absurd (search rules), λ none. absurd (none is.0.one is.0.holds))

pub in_order : (m : MovesParts) (least greatest place long : ℕ) (gains : Option Gains) → IsAnswer m least greatest place long gains → IfSome gains (λ g. g.least ≤ g.greatest)
in_order m least greatest place long None is = search rules
in_order m least greatest place long (Some g) is = let low = is.0.no_less is.1.one is.1.holds in omega (arith, low, is.1.is)
