-- The lists of a problem's moves hang together, and are its moves.
use Rattle.std.proofs.Common.{◌≡◌, ℕ, suc, zero, ◌+◌, ◌*◌, ◌/◌, ◌%◌, ◌<◌, ◌≤◌, inl, inr, Bool, false, List, [], ◌∷◌, length, get_or, map, All, refl, sym, ap, ◌∙◌, subst, arith, append-nil}
use Rattle.std.specs.List.{range_with_len}
use Rattle.std.proofs.Math.Nat.{mul_comm}
use Rattle.std.proofs.lemmas.Bool.{cases_eq}
use Rattle.std.proofs.lemmas.Nat.{div-add-mod', mul-add-lt, div-mul-add, mod-mul-add}
use Rattle.std.proofs.lemmas.List.{get_or-map, length-map}
use Rattle.std.proofs.lemmas.List.FromFn.{get_or-map-range_with_len, length-map-range_with_len}
use Rattle.std.proofs.lemmas.List.Elements.{All-get_or, All-from_get_or}
use Rattle.cr_row.specs.Rows.{Places, rounds, product}
use Rattle.cr_model.specs.Problems.{ProblemParts}
use Rattle.cr_model.specs.Callings.{changes_of, lead_length, rows_from, last_of, head_of}
use Rattle.cr_model.specs.Levels.{head_from}
use Rattle.cr_model.specs.Sound.{IsSound as IsSoundProblem, sound_leads}
use Rattle.cr_ahead.specs.Moves.{MovesParts, places_of, steps_of, next_place, step_length, IsSound}
use Rattle.cr_ahead.specs.Home.{is_part_end}
use Rattle.cr_ahead.specs.LeadMoves.{AreMovesOf}
use Rattle.cr_ahead.specs.Units.{IsUnit, in_changes}
use Rattle.cr_ahead.specs.Outlooks.{AreLeadHeads, led_to}
use Rattle.cr_ahead.proofs.InUnits.{same_steps, same_next, times_length}

-- the lists that moves are made of
pub record AreLists (p : ProblemParts) (heads : List (List ℕ)) (next : List ℕ) (unit : ℕ) (m : MovesParts) : Type 0 where
  pub places : m.next ≡ next
  pub lengths : m.lengths ≡ map (λ step. lead_length p step / unit) (range_with_len 0 (length p.leads))
  pub gains : length m.gains ≡ length next
  pub ends : m.ends ≡ map (is_part_end p) heads

module _ (p : ProblemParts) (heads : List (List ℕ)) (next : List ℕ) (unit : ℕ) (m : MovesParts) (sound : IsSoundProblem p) (leads : AreLeadHeads p heads next)
    (is_unit : IsUnit p unit) (are : AreLists p heads next unit m) where
  counted_places : places_of m ≡ length heads
  counted_places = ap length are.ends ∙ length-map heads (is_part_end p)

  counted_steps : steps_of m ≡ length p.leads
  counted_steps = ap length are.lengths ∙ length-map-range_with_len (λ step. lead_length p step / unit) 0 (length p.leads)

  units_at : (step : ℕ) → step < length p.leads → step_length m step ≡ lead_length p step / unit
  units_at step known =
      ap (λ (lengths : List ℕ). get_or lengths step 0) are.lengths
      ∙ get_or-map-range_with_len (λ s. lead_length p s / unit) 0 (length p.leads) step step 0 known (omega arith)

  whole : (step : ℕ) → unit * (lead_length p step / unit) ≡ lead_length p step
  whole step = omega (arith, div-add-mod' (lead_length p step) unit, is_unit.each step, mul_comm unit (lead_length p step / unit))

  some_units : (step : ℕ) → step < length p.leads → 0 < step_length m step
  some_units step known =
      let some : 1 ≤ lead_length p step = ((sound_leads p sound).each step known).changes.some in
      positive (step_length m step) (lead_length p step) (ap (λ (n : ℕ). unit * n) (units_at step known) ∙ whole step) some
    where
      positive : (units changes : ℕ) → unit * units ≡ changes → 1 ≤ changes → 0 < units
      positive zero changes same some = absurd (omega (arith, same, some))
      positive (suc n) changes same some = omega arith

  pub lists_sound : IsSound m
  lists_sound = record {
    few = omega (arith, counted_places, leads.few);
    led = ap length are.places ∙ leads.counted ∙ ap (λ (n : ℕ). n * length p.leads) (sym counted_places) ∙ ap (λ (n : ℕ). places_of m * n) (sym counted_steps);
    gained = are.gains ∙ leads.counted ∙ ap (λ (n : ℕ). n * length p.leads) (sym counted_places) ∙ ap (λ (n : ℕ). places_of m * n) (sym counted_steps);
    there = subst (λ (n : ℕ). All (λ place. place < n) m.next) (sym counted_places) (subst (λ (xs : List ℕ). All (λ place. place < length heads) xs) (sym are.places) leads.there);
    long = All-from_get_or (λ n. 0 < n) m.lengths 0 (λ step inside. some_units step (omega (arith, inside, counted_steps)));
  }

  next_at : (place step : ℕ) → next_place (in_changes unit m) place step ≡ led_to p next place step
  next_at place step =
      same_next unit m place step ∙ ap (λ (some : List ℕ). get_or some (place * steps_of m + step) 0) are.places ∙ ap (λ (n : ℕ). get_or next (place * n + step) 0) counted_steps

  next_inside : (place step : ℕ) → place < length heads → step < length p.leads → led_to p next place step < length heads
  next_inside place step inside known =
      let within : place * length p.leads + step < length next = omega (arith, mul-add-lt place (length p.leads) step (length heads) inside known, mul_comm (length p.leads) (length heads), leads.counted) in
      All-get_or (λ there. there < length heads) next (place * length p.leads + step) 0 within leads.there

  pub moves_are : AreMovesOf p heads (in_changes unit m)
  moves_are = record {
    places = counted_places;
    steps = same_steps unit m ∙ counted_steps;
    lengths = λ step known. times_length unit m step ∙ ap (λ (n : ℕ). unit * n) (units_at step known) ∙ whole step;
    ends = λ place inside. ap (λ (ends : List Bool). get_or ends place false) are.ends ∙ get_or-map (is_part_end p) heads place [] false inside;
    there = λ place step inside known. subst (λ (n : ℕ). n < length heads) (sym (next_at place step)) (next_inside place step inside known);
    next = λ place step inside known. ap (λ (n : ℕ). get_or heads n []) (next_at place step) ∙ leads.leads place step inside known;
  }

last_mapped : (f : List ℕ → List ℕ) (row : List ℕ) (rows : List (List ℕ)) → last_of (f row) (map f rows) ≡ f (last_of row rows)
last_mapped f row [] = refl
last_mapped f row (next ∷ rows) = last_mapped f next rows

-- a lead rung from a head, by the lead rung from rounds
pub head_times : ((stage : ℕ) (row : List ℕ) (changes : List Places) → length row ≡ stage → rows_from row changes ≡ map (product row) (rows_from (rounds stage) changes))
    → ((row : List ℕ) → product row (rounds (length row)) ≡ row)
    → (p : ProblemParts) (head : List ℕ) (step : ℕ) → length head ≡ p.stage → product head (head_of p (step ∷ [])) ≡ head_from head (changes_of p step)
head_times rung neutral p head step staged =
    ap (λ (changes : List Places). product head (last_of (rounds p.stage) (rows_from (rounds p.stage) changes))) (append-nil (changes_of p step))
    ∙ sym (last_mapped (product head) (rounds p.stage) (rows_from (rounds p.stage) (changes_of p step)))
    ∙ ap (λ (row : List ℕ). last_of row (map (product head) (rows_from (rounds p.stage) (changes_of p step)))) (ap (λ (n : ℕ). product head (rounds n)) (sym staged) ∙ neutral head)
    ∙ ap (last_of head) (sym (rung p.stage head (changes_of p step) staged))

-- the head at an entry's place is the one that its step leads to
abbrev pub LeadsRight : ProblemParts → List (List ℕ) → List ℕ → ℕ → ℕ → Type 0
LeadsRight p heads next steps k = get_or heads (get_or next k 0) [] ≡ head_from (get_or heads (k / steps) []) (changes_of p (k % steps))

pub all_led : (p : ProblemParts) (heads : List (List ℕ)) (next : List ℕ) (steps : ℕ) → length p.leads ≡ steps → length next ≡ length heads * steps
    → ((k : ℕ) → k < length next → LeadsRight p heads next steps k) → (place step : ℕ) → place < length heads → step < length p.leads
    → get_or heads (led_to p next place step) [] ≡ head_from (get_or heads place []) (changes_of p step)
all_led p heads next steps same counted each place step inside known =
    let low : step < steps = omega (arith, known, same) in
    let within : place * steps + step < length next = omega (arith, mul-add-lt place steps step (length heads) inside low, mul_comm steps (length heads), counted) in
    ap (λ (n : ℕ). get_or heads (get_or next (place * n + step) 0) []) same
    ∙ each (place * steps + step) within
    ∙ ap (λ (n : ℕ). head_from (get_or heads n []) (changes_of p ((place * steps + step) % steps))) (div-mul-add place steps step low)
    ∙ ap (λ (n : ℕ). head_from (get_or heads place []) (changes_of p n)) (mod-mul-add place steps step low)

-- and so of one entry more
pub one_leads : (p : ProblemParts) (heads : List (List ℕ)) (next : List ℕ) (steps entry k : ℕ) → ((i : ℕ) → i < entry → LeadsRight p heads next steps i)
    → LeadsRight p heads next steps entry → k < entry + 1 → LeadsRight p heads next steps k
one_leads p heads next steps entry k before last low = elim (cases_eq k entry) [
  | inl same ↦ subst (LeadsRight p heads next steps) (sym same) last
  | inr other ↦ before k (omega (arith, low, other))
]

pub some_steps : (places steps entry : ℕ) → entry < places * steps → 0 < steps
some_steps places zero entry low = absurd (omega (arith, low))
some_steps places (suc n) entry low = omega arith
