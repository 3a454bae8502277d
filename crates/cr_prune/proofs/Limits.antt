-- The numbers of a sound problem are small, and nodes of many steps are long.
use Rattle.std.proofs.Common.{◌≡◌, ℕ, ◌*◌, ◌/◌, ◌<◌, ◌≤◌, true, List, [], ◌∷◌, length, refl, ap, ◌∙◌, inl, inr, arith, length-append, append-nil, lt-ltb}
use Rattle.std.proofs.lemmas.Bool.{cases_lt}
use Rattle.std.proofs.lemmas.Int.{ints}
use Rattle.std.proofs.lemmas.Nat.{le-div}
use Rattle.std.proofs.lemmas.List.Elements.{All-cons, All-nil, All-push}
use Rattle.std.proofs.Math.Nat.{div-le_self}
use Rattle.cr_row.specs.Rows.{Places, rounds, after}
use Rattle.cr_row.proofs.ChangeLaws.{length-changed}
use Rattle.cr_row.proofs.RowLaws.{length-rounds}
use Rattle.cr_model.specs.Problems.{ProblemParts}
use Rattle.cr_model.specs.Callings.{changes_of, changes_of_all, rows_from, last_of, head_of, length_of, shortest, HasSteps}
use Rattle.cr_model.specs.Queries.{cap, part_cap}
use Rattle.cr_model.specs.Nodes.{IsValid}
use Rattle.cr_model.specs.Sound.{IsSound, sound_leads, sound_range, sound_depth}
use Rattle.cr_model.specs.Dead.{parts_of, is_long}
use Rattle.cr_model.specs.Sizes.{child}
use Rattle.cr_model.proofs.Below.{some_shortest, shortest_leads}

-- the length of a head
pub last_long : (row : List ℕ) (changes : List Places) → length (last_of row (rows_from row changes)) ≡ length row
last_long row [] = refl
last_long row (change ∷ changes) = last_long (after change row) changes ∙ length-changed change.made 1 row

pub head_long : (p : ProblemParts) (calling : List ℕ) → length (head_of p calling) ≡ p.stage
head_long p calling = last_long (rounds p.stage) (changes_of_all p calling) ∙ length-rounds p.stage

-- the greatest lengths
pub cap_few : (p : ProblemParts) → IsSound p → cap p ≤ 12000
cap_few p sound =
    let range = sound_range p sound in
    let from = range.from in
    let order = range.order in
    let to = range.to in
    omega (arith, ints)

pub part_below : (p : ProblemParts) → part_cap p ≤ cap p
part_below p = div-le_self (cap p) (parts_of p)

pub part_few : (p : ProblemParts) → IsSound p → part_cap p ≤ 12000
part_few p sound = omega (arith, cap_few p sound, part_below p)

-- the changes of a lead
pub lead_few : (p : ProblemParts) (step : ℕ) → IsSound p → step < length p.leads → length (changes_of p step) ≤ 128
lead_few p step sound inside = ((sound_leads p sound).each step inside).changes.few

-- the shortest lead
pub shortest_few : (p : ProblemParts) → IsSound p → shortest p ≤ 128
shortest_few p sound =
    let some : 0 < length p.leads = (sound_leads p sound).some in
    let steps : HasSteps p (0 ∷ []) = All-cons (λ step. step < length p.leads) 0 [] some (All-nil (λ step. step < length p.leads)) in
    omega (arith, shortest_leads p (0 ∷ []) steps, ap length (append-nil (changes_of p 0)), lead_few p 0 sound some)

-- a child of a node with as many steps as a calling may have
pub child_long : (p : ProblemParts) (node : List ℕ) (step : ℕ) → IsSound p → IsValid p node → 1024 ≤ length node → step < length p.leads →
    is_long p (child node step) ≡ true
child_long p node step sound valid many inside = elim (cases_lt (part_cap p) (length_of p (child node step))) [
  | inl long ↦ lt-ltb (part_cap p) (length_of p (child node step)) long
  | inr short ↦
      let steps : HasSteps p (child node step) = All-push (λ s. s < length p.leads) node step valid.steps inside in
      let within : length (child node step) * shortest p ≤ cap p = omega (arith, shortest_leads p (child node step) steps, short, part_below p) in
      let few : length (child node step) ≤ cap p / shortest p = le-div (length (child node step)) (cap p) (shortest p) (some_shortest p sound) within in
      absurd (omega (arith, few, sound_depth p sound, length-append node (step ∷ []), many))
]
