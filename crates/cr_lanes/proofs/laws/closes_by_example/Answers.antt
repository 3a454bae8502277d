use Rattle.std.proofs.Common.{◌≡◌, ℕ, zero, suc, ◌+◌, ◌<◌, [], ◌∷◌, get_or, sum_by, refl, arith}
use Rattle.std.proofs.lemmas.List.Elements.{All-from_recursion}
use Rattle.cr_lanes.specs.Lane.{times, Ascends}
use Rattle.cr_lanes.specs.Ends.{LaneName, EndParts}
use Rattle.cr_lanes.specs.Lanes.{AreAll}
use Rattle.cr_lanes.specs.Examples.{end_that, two_ends, thief_with}
use Rattle.cr_lanes.proofs.laws.closes_by_example.Goals as goal

none : (name : LaneName) → AreAll (two_ends name) (thief_with ((1 ∷ []) ∷ (2 ∷ []) ∷ []) ∷ thief_with ([] ∷ (3 ∷ []) ∷ []) ∷ []) ([] ∷ [] ∷ [])
none name = record { lanes = refl; rises = All-from_recursion (λ (e : EndParts). Ascends e.put) (two_ends name) (((omega arith, tt), (tt, tt)), (((omega arith, tt), (tt, tt)), tt)); each = by }
  where
    by : (lane : ℕ) (d : EndParts) (x : ℕ) → lane < 2 → times x (get_or (two_ends name) lane d).put ≡ times x (get_or ([] ∷ [] ∷ []) lane []) + times x (get_or (two_ends name) lane d).taken
        + sum_by (λ t. times x (get_or t.stolen lane [])) (thief_with ((1 ∷ []) ∷ (2 ∷ []) ∷ []) ∷ thief_with ([] ∷ (3 ∷ []) ∷ []) ∷ [])
    by zero d x low = omega arith
    by (suc zero) d x low = omega arith
    by (suc (suc lane)) d x low = absurd (omega arith)

one : (name : LaneName) → AreAll (two_ends name) (thief_with ((1 ∷ []) ∷ (2 ∷ []) ∷ []) ∷ thief_with ([] ∷ [] ∷ []) ∷ []) ([] ∷ (3 ∷ []) ∷ [])
one name = record { lanes = refl; rises = All-from_recursion (λ (e : EndParts). Ascends e.put) (two_ends name) (((omega arith, tt), (tt, tt)), (((omega arith, tt), (tt, tt)), tt)); each = by }
  where
    by : (lane : ℕ) (d : EndParts) (x : ℕ) → lane < 2 → times x (get_or (two_ends name) lane d).put ≡ times x (get_or ([] ∷ (3 ∷ []) ∷ []) lane []) + times x (get_or (two_ends name) lane d).taken
        + sum_by (λ t. times x (get_or t.stolen lane [])) (thief_with ((1 ∷ []) ∷ (2 ∷ []) ∷ []) ∷ thief_with ([] ∷ [] ∷ []) ∷ [])
    by zero d x low = omega arith
    by (suc zero) d x low = omega arith
    by (suc (suc lane)) d x low = absurd (omega arith)

pub returns : goal.returns
returns c = record {
  none = none;
  one = one;
  left_out = λ name h. absurd (omega (arith, h.each 1 (end_that name [] []) 3 (omega arith)));
  lane_beside = λ name h. absurd (omega (arith, h.each 1 (end_that name [] []) 3 (omega arith)));
  too_few = λ name h. absurd (omega (arith, h.lanes));
  twice = λ name h. absurd (omega (arith, h.each 1 (end_that name [] []) 3 (omega arith)));
  put_twice = λ name h. absurd (omega (arith, (h.rises 0 (end_that name [] []) (omega arith)).0.0));
}
