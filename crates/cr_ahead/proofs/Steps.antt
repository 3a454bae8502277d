-- Ways by their first step.
use Rattle.std.proofs.Common.{◌≡◌, ℕ, ◌+◌, ◌-◌, ◌*◌, ◌<◌, ◌≤◌, nat_le, ◌⊎◌, Bool, true, false, cond, ◌&&◌, List, [], ◌∷◌, length, Option, Some, None, refl, sym, ap, ◌∙◌, subst, inl, inr, arith}
use Rattle.std.proofs.lemmas.Bool.{cases_eq, true≢false, leb-true, leb-false}
use Rattle.std.proofs.lemmas.List.Elements.{All-nil, All-cons, All-head, All-tail}
use Rattle.std.proofs.lemmas.Nat.{mul-add-lt}
use Rattle.cr_ahead.specs.declared.gains.Gains.{Gains}
use Rattle.cr_ahead.specs.Moves.{MovesParts, places_of, steps_of, next_place, step_length, step_gain, is_end}
use Rattle.cr_ahead.specs.Ways.{gain_of, IsWay, Tells, IsAnswer}
use Rattle.cr_ahead.specs.Cells.{told_by, joined, raised}
use Rattle.cr_ahead.specs.Tables.{cell_at}
use Rattle.cr_ahead.specs.Rows.{IsFew, AreRight, IsStay, BeginsWith, BeginsBelow, IsAnswerOf}
use Rattle.cr_ahead.proofs.Sets.{tells_joined, tells_raised, tells_same}

-- behind a first step
pub way_on : (m : MovesParts) (least greatest place long step : ℕ) (steps : List ℕ) → IsWay m least greatest place long (step ∷ steps)
    → IsWay m least greatest (next_place m place step) (long + step_length m step) steps
way_on m least greatest place long step steps way = record {
  are_steps = All-tail (λ s. s < steps_of m) step steps way.are_steps;
  at_end = way.at_end;
  at_least = omega (arith, way.at_least);
  at_most = omega (arith, way.at_most);
}

-- in front of a way
pub way_before : (m : MovesParts) (least greatest place long step : ℕ) (steps : List ℕ) → step < steps_of m
    → IsWay m least greatest (next_place m place step) (long + step_length m step) steps → IsWay m least greatest place long (step ∷ steps)
way_before m least greatest place long step steps within way = record {
  are_steps = All-cons (λ s. s < steps_of m) step steps within way.are_steps;
  at_end = way.at_end;
  at_least = omega (arith, way.at_least);
  at_most = omega (arith, way.at_most);
}

-- the answer for the ways that begin with a step, by that for what comes behind it
pub behind_step : (m : MovesParts) (least greatest place long step gain : ℕ) (later : Option Gains) → step < steps_of m → gain ≡ step_gain m place step
    → IsAnswer m least greatest (next_place m place step) (long + step_length m step) later
    → IsAnswerOf m least greatest place long (BeginsWith step) (raised gain later)
behind_step m least greatest place long step gain later within gain_is told =
    tells_raised
    (IsWay m least greatest (next_place m place step) (long + step_length m step))
    (λ steps. IsWay m least greatest place long steps × BeginsWith step steps)
    (gain_of m (next_place m place step)) (gain_of m place) step gain
    (λ steps way. (way_before m least greatest place long step steps within way, refl))
    back
    (λ steps. ap (λ (n : ℕ). n + gain_of m (next_place m place step) steps) (sym gain_is))
    later told
  where
    back : (steps : List ℕ) → IsWay m least greatest place long steps × BeginsWith step steps
        → (rest : List ℕ) × IsWay m least greatest (next_place m place step) (long + step_length m step) rest × (steps ≡ step ∷ rest)
    back [] h = absurd h.1
    back (first ∷ rest) h =
        let same : first ≡ step = h.1 in
        let way : IsWay m least greatest place long (step ∷ rest) = subst (λ (s : ℕ). IsWay m least greatest place long (s ∷ rest)) same h.0 in
        (rest, way_on m least greatest place long step rest way, ap (λ (s : ℕ). s ∷ rest) same)

-- a step that is too long begins no way
pub none_behind : (m : MovesParts) (least greatest place long step : ℕ) → greatest < long + step_length m step
    → IsAnswerOf m least greatest place long (BeginsWith step) None
none_behind m least greatest place long step beyond [] h = absurd h.1
none_behind m least greatest place long step beyond (first ∷ rest) h =
    let same : step_length m first ≡ step_length m step = ap (step_length m) h.1 in
    omega (arith, h.0.at_most, same)

-- the cell of the next place has it
by_step : (m : MovesParts) (least greatest left place step long next gain : ℕ) (cells : List Gains)
    → left ≤ greatest → step < steps_of m → long ≡ step_length m step → 0 < long → long ≤ left
    → next ≡ next_place m place step → next < places_of m → left * places_of m ≤ length cells → gain ≡ step_gain m place step
    → AreRight m least greatest cells
    → IsAnswerOf m least greatest place (greatest - left) (BeginsWith step) (raised gain (told_by (cell_at cells (places_of m) (left - long) next)))
by_step m least greatest left place step long next gain cells few within long_is some fits next_is there made gain_is right =
    let later = told_by (cell_at cells (places_of m) (left - long) next) in
    let at : (left - long) * places_of m + next < places_of m * left = mul-add-lt (left - long) (places_of m) next left (omega arith) there in
    let up : greatest - (left - long) ≡ greatest - left + step_length m step = omega arith in
    behind_step m least greatest place (greatest - left) step gain later within gain_is
    (subst (λ (n : ℕ). IsAnswer m least greatest (next_place m place step) n later) up
    (subst (λ (p : ℕ). IsAnswer m least greatest p (greatest - (left - long)) later) next_is
    (right.each (left - long) next (omega arith) there (omega (arith, at, made)))))

-- as the code finds it
pub found_by_step : (m : MovesParts) (least greatest left place step long next gain places : ℕ) (cells : List Gains) (later result : Option Gains)
    → left ≤ greatest → step < steps_of m → long ≡ step_length m step → 0 < long → long ≤ left
    → next ≡ next_place m place step → next < places_of m → left * places_of m ≤ length cells → gain ≡ step_gain m place step → places ≡ places_of m
    → later ≡ told_by (cell_at cells places (left - long) next) → result ≡ raised gain later → AreRight m least greatest cells
    → IsAnswerOf m least greatest place (greatest - left) (BeginsWith step) result
found_by_step m least greatest left place step long next gain places cells later result few within long_is some fits next_is there made gain_is all later_is is right =
    let whole : result ≡ raised gain (told_by (cell_at cells (places_of m) (left - long) next)) =
    is ∙ ap (raised gain) later_is ∙ ap (λ (n : ℕ). raised gain (told_by (cell_at cells n (left - long) next))) all in
    subst (IsAnswerOf m least greatest place (greatest - left) (BeginsWith step)) (sym whole)
    (by_step m least greatest left place step long next gain cells few within long_is some fits next_is there made gain_is right)

-- without a first step, where the empty list is no way
none_begun : (m : MovesParts) (least greatest place long : ℕ) → (IsWay m least greatest place long [] → ⊥)
    → IsAnswerOf m least greatest place long (BeginsBelow 0) None
none_begun m least greatest place long no_way [] h = no_way h.0
none_begun m least greatest place long no_way (first ∷ steps) h = let low : first < 0 = h.1 in absurd (omega arith)

-- and where it is one
empty_begun : (m : MovesParts) (least greatest place long : ℕ) → IsWay m least greatest place long []
    → IsAnswerOf m least greatest place long (BeginsBelow 0) (Some (record { least = 0; greatest = 0 }))
empty_begun m least greatest place long way = (
  record { one = []; holds = (way, tt); is = refl; no_less = λ steps h. omega arith },
  record { one = []; holds = (way, tt); is = refl; no_more = λ steps h. omega (arith, nothing steps h) },
)
  where
    nothing : (steps : List ℕ) → IsWay m least greatest place long steps × BeginsBelow 0 steps → gain_of m place steps ≡ 0
    nothing [] h = refl
    nothing (first ∷ steps) h = let low : first < 0 = h.1 in absurd (omega arith)

pub empty_way : (m : MovesParts) (least greatest place long : ℕ) → is_end m place ≡ true → least ≤ long → long ≤ greatest → IsWay m least greatest place long []
empty_way m least greatest place long end low high = record { are_steps = All-nil (λ s. s < steps_of m); at_end = end; at_least = omega arith; at_most = omega arith }

pub first_begun : (m : MovesParts) (least greatest left place : ℕ) (gains : Option Gains) → left ≤ greatest → IsStay m least greatest left place gains
    → IsAnswerOf m least greatest place (greatest - left) (BeginsBelow 0) gains
first_begun m least greatest left place None few stay =
    none_begun m least greatest place (greatest - left) (λ way. stay way.at_end (omega (arith, way.at_least)))
first_begun m least greatest left place (Some gains) few stay =
    subst (λ (g : Gains). IsAnswerOf m least greatest place (greatest - left) (BeginsBelow 0) (Some g)) (sym stay.2)
    (empty_begun m least greatest place (greatest - left) (empty_way m least greatest place (greatest - left) stay.0 (omega (arith, stay.1)) (omega arith)))

-- by a test of the place and the length
pub tested_begun : (m : MovesParts) (least greatest place long : ℕ)
    → IsAnswerOf m least greatest place long (BeginsBelow 0)
    (cond (is_end m place && (nat_le least long && nat_le long greatest)) (Some (record { least = 0; greatest = 0 })) None)
tested_begun m least greatest place long = by (is_end m place) refl (nat_le least long) refl (nat_le long greatest) refl
  where
    by : (end : Bool) → is_end m place ≡ end → (low : Bool) → nat_le least long ≡ low → (high : Bool) → nat_le long greatest ≡ high
        → IsAnswerOf m least greatest place long (BeginsBelow 0) (cond (end && (low && high)) (Some (record { least = 0; greatest = 0 })) None)
    by false e low f high g = none_begun m least greatest place long (λ way. true≢false (sym way.at_end ∙ e))
    by true e false f high g = none_begun m least greatest place long (λ way. omega (arith, leb-false least long f, way.at_least))
    by true e true f false g = none_begun m least greatest place long (λ way. omega (arith, leb-false long greatest g, way.at_most))
    by true e true f true g = empty_begun m least greatest place long (empty_way m least greatest place long e (leb-true least long f) (leb-true long greatest g))

-- with one first step more
pub one_more_begun : (m : MovesParts) (least greatest place long step : ℕ) (gains more : Option Gains)
    → IsAnswerOf m least greatest place long (BeginsBelow step) gains → IsAnswerOf m least greatest place long (BeginsWith step) more
    → IsAnswerOf m least greatest place long (BeginsBelow (step + 1)) (joined gains more)
one_more_begun m least greatest place long step gains more is with =
    tells_joined
    (λ steps. IsWay m least greatest place long steps × BeginsBelow step steps)
    (λ steps. IsWay m least greatest place long steps × BeginsWith step steps)
    (λ steps. IsWay m least greatest place long steps × BeginsBelow (step + 1) steps)
    (gain_of m place) split left right gains more is with
  where
    split : (steps : List ℕ) → IsWay m least greatest place long steps × BeginsBelow (step + 1) steps
        → (IsWay m least greatest place long steps × BeginsBelow step steps) ⊎ (IsWay m least greatest place long steps × BeginsWith step steps)
    split [] h = inl h
    split (first ∷ steps) h =
        let low : first < step + 1 = h.1 in
        elim (cases_eq first step) [
          | inl same ↦ inr (h.0, same)
          | inr other ↦ inl (h.0, omega (arith, low, other))
        ]

    left : (steps : List ℕ) → IsWay m least greatest place long steps × BeginsBelow step steps → IsWay m least greatest place long steps × BeginsBelow (step + 1) steps
    left [] h = h
    left (first ∷ steps) h = let low : first < step = h.1 in (h.0, omega arith)

    right : (steps : List ℕ) → IsWay m least greatest place long steps × BeginsWith step steps → IsWay m least greatest place long steps × BeginsBelow (step + 1) steps
    right [] h = absurd h.1
    right (first ∷ steps) h = let same : first ≡ step = h.1 in (h.0, omega arith)

-- with all first steps
pub all_begun : (m : MovesParts) (least greatest place long step : ℕ) (gains : Option Gains) → steps_of m ≤ step
    → IsAnswerOf m least greatest place long (BeginsBelow step) gains → Tells (IsWay m least greatest place long) (gain_of m place) gains
all_begun m least greatest place long step gains all is =
    tells_same
    (λ steps. IsWay m least greatest place long steps × BeginsBelow step steps) (IsWay m least greatest place long) (gain_of m place)
    (λ steps h. h.0) below gains is
  where
    below : (steps : List ℕ) → IsWay m least greatest place long steps → IsWay m least greatest place long steps × BeginsBelow step steps
    below [] way = (way, tt)
    below (first ∷ steps) way = let within : first < steps_of m = All-head (λ s. s < steps_of m) first steps way.are_steps in (way, omega arith)

-- gains stay few
pub few_joined : (left : ℕ) (one other : Option Gains) → IsFew left one → IsFew left other → IsFew left (joined one other)
few_joined left None None few few' = few
few_joined left None (Some h) few few' = few'
few_joined left (Some g) None few few' = few
few_joined left (Some g) (Some h) few few' = (omega (arith, few.0, few'.0), omega (arith, few.1, few'.1))
