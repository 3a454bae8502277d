-- What is no longer than a touch may be has few leads.
use Rattle.std.proofs.Common.{ℕ, ◌≤◌, ℤ, pos, ◌≤ℤ◌, nat_abs, List, length, arith}
use Rattle.std.proofs.Math.Nat.{div-le_self}
use Rattle.std.proofs.lemmas.Nat.{le-div}
use Rattle.std.proofs.lemmas.Int.{ints}
use Rattle.cr_model.specs.Problems.{ProblemParts}
use Rattle.cr_model.specs.Callings.{HasSteps, length_of, shortest}
use Rattle.cr_model.specs.Limits.{most_leads}
use Rattle.cr_model.specs.Queries.{cap, part_cap}
use Rattle.cr_model.proofs.Below.{some_shortest, shortest_leads}
use Rattle.cr_model.specs.Sound.{IsSound, sound_range, sound_depth}

-- a number from 1 on that is no more than 12,000
no_more : (low high : ℤ) → pos 1 ≤ℤ low → low ≤ℤ high → high ≤ℤ pos 12000 → nat_abs high ≤ 12000
no_more low high from order to = grind (arith, ints)

-- the greatest length of a touch
pub cap_few : (p : ProblemParts) → IsSound p → cap p ≤ 12000
cap_few p sound =
    let right = sound_range p sound in
    let few : nat_abs p.query.max ≤ 12000 = no_more p.query.min p.query.max right.from right.order right.to in
    omega (arith, few)

module _ (p : ProblemParts) (sound : IsSound p) where
  -- what is no longer than a touch may be has no more than 1,024 leads
  pub few_leads : (calling : List ℕ) → HasSteps p calling → length_of p calling ≤ cap p → length calling ≤ most_leads
  few_leads calling steps short =
      let most = le-div (length calling) (cap p) (shortest p) (some_shortest p sound) (omega (arith, shortest_leads p calling steps, short)) in
      omega (arith, most, sound_depth p sound)

  -- and so has a node that is no longer than a part may be
  pub few_steps : (node : List ℕ) → HasSteps p node → length_of p node ≤ part_cap p → length node ≤ most_leads
  few_steps node steps short = few_leads node steps (omega (arith, short, div-le_self (cap p) (nat_abs p.query.parts)))
