-- The numbers of a sound problem are small.
use Rattle.std.proofs.Common.{ℕ, ◌<◌, ◌≤◌, [], ◌∷◌, length, ap, arith, append-nil}
use Rattle.std.proofs.lemmas.Int.{ints}
use Rattle.std.proofs.lemmas.List.Elements.{All-cons, All-nil}
use Rattle.std.proofs.Math.Nat.{div-le_self}
use Rattle.cr_model.specs.Problems.{ProblemParts}
use Rattle.cr_model.specs.Callings.{lead_length, changes_of, shortest, HasSteps}
use Rattle.cr_model.specs.Queries.{cap, part_cap}
use Rattle.cr_model.specs.Sound.{IsSound, sound_leads, sound_range}
use Rattle.cr_model.specs.Dead.{parts_of}
use Rattle.cr_model.proofs.Below.{shortest_leads}

-- the greatest lengths
pub cap_few : (p : ProblemParts) → IsSound p → cap p ≤ 12000
cap_few p sound =
    let range = sound_range p sound in
    let from = range.from in
    let order = range.order in
    let to = range.to in
    omega (arith, ints)

pub part_few : (p : ProblemParts) → IsSound p → part_cap p ≤ 12000
part_few p sound = omega (arith, cap_few p sound, div-le_self (cap p) (parts_of p))

-- the changes of a lead
pub lead_few : (p : ProblemParts) (step : ℕ) → IsSound p → step < length p.leads → lead_length p step ≤ 128
lead_few p step sound inside = ((sound_leads p sound).each step inside).changes.few

-- the shortest lead
pub shortest_few : (p : ProblemParts) → IsSound p → shortest p ≤ 128
shortest_few p sound =
    let some : 0 < length p.leads = (sound_leads p sound).some in
    let steps : HasSteps p (0 ∷ []) = All-cons (λ step. step < length p.leads) 0 [] some (All-nil (λ step. step < length p.leads)) in
    omega (arith, shortest_leads p (0 ∷ []) steps, ap length (append-nil (changes_of p 0)), lead_few p 0 sound some)
