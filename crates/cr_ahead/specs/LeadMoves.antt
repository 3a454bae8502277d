-- Moves from lead head to lead head of a problem, and what their answers say of whole touches.
use Rattle.std.specs.Prelude.{◌≡◌, ℕ, ◌+◌, ◌-◌, ◌*◌, ◌/◌, ◌<◌, Bool, true, cond, ◌||◌, ℤ, pos, int_lt, nat_abs, nat_eq, List, [], ◌∷◌, length, get_or, Option, Some, None}
use Rattle.cr_model.specs.declared.query.Cell.{Cell}
use Rattle.cr_model.specs.Problems.{ProblemParts}
use Rattle.cr_model.specs.Callings.{changes_of, lead_length, method_of, mark_of, letter_of, rows_from, head_of}
use Rattle.cr_model.specs.Queries.{rows_fitting}
use Rattle.cr_model.specs.Levels.{head_from}
use Rattle.cr_model.specs.Dead.{parts_of}
use Rattle.cr_ahead.specs.declared.gains.Gains.{Gains}
use Rattle.cr_ahead.specs.Moves.{MovesParts, places_of, steps_of, next_place, step_length, step_gain, is_end}
use Rattle.cr_ahead.specs.Home.{is_part_end}

-- the least length of a part of a touch that is as long as is asked
abbrev pub part_least : ProblemParts → ℕ
part_least p = (nat_abs p.query.min + parts_of p - 1) / parts_of p

-- each place is one of some lead heads, and from there each of the problem's steps leads to the place of the head that it leads to, by its
-- changes. The end of a part is told of the head
pub record AreMovesOf (p : ProblemParts) (heads : List (List ℕ)) (m : MovesParts) : Type 0 where
  pub places : places_of m ≡ length heads
  pub steps : steps_of m ≡ length p.leads
  pub lengths : (step : ℕ) → step < length p.leads → step_length m step ≡ lead_length p step
  pub ends : (place : ℕ) → place < length heads → is_end m place ≡ is_part_end p (get_or heads place [])
  pub there : (place step : ℕ) → place < length heads → step < length p.leads → next_place m place step < length heads
  pub next : (place step : ℕ) → place < length heads → step < length p.leads
      → get_or heads (next_place m place step) [] ≡ head_from (get_or heads place []) (changes_of p step)

-- the place has the node's head
pub record IsPlaceOf (p : ProblemParts) (heads : List (List ℕ)) (place : ℕ) (node : List ℕ) : Type 0 where
  pub there : place < length heads
  pub head : get_or heads place [] ≡ head_of p node

-- the moves gain so much, by place and step
abbrev pub HaveGains : ProblemParts → List (List ℕ) → MovesParts → (ℕ → ℕ → ℕ) → Type 0
HaveGains p heads m gain = (place step : ℕ) → place < length heads → step < length p.leads → step_gain m place step ≡ gain place step

-- what a lead adds to a count of a mark, and to a count of a method
abbrev pub marked_gain : ProblemParts → ℕ → ℕ → ℕ
marked_gain p mark step = cond (nat_eq (mark_of p step) mark) 1 0

abbrev pub lettered_gain : ProblemParts → ℕ → ℕ → ℕ
lettered_gain p letter step = cond (nat_eq (letter_of p step) letter) 1 0

-- what it adds to a pattern, rung from a head
abbrev pub fitting_gain : ProblemParts → List Cell → List ℕ → ℕ → ℕ
fitting_gain p cells head step = rows_fitting cells (rows_from head (changes_of p step))

-- the method of the last lead, if there is one; and what a lead adds to the changes of method behind that
abbrev pub last_method : ProblemParts → List ℕ → Option ℕ
last_method p [] = None
last_method p (step ∷ []) = Some (method_of p step)
last_method p (step ∷ next ∷ steps) = last_method p (next ∷ steps)

abbrev pub changing_gain : ProblemParts → Option ℕ → ℕ → ℕ
changing_gain p None step = 0
changing_gain p (Some method) step = cond (nat_eq method (method_of p step)) 0 1

-- each place has a last method too: that of the step that leads to it
abbrev pub HaveMethods : ProblemParts → List (List ℕ) → MovesParts → List (Option ℕ) → Type 0
HaveMethods p heads m methods = (place step : ℕ) → place < length heads → step < length p.leads → get_or methods (next_place m place step) None ≡ Some (method_of p step)

-- the numbers of whole touches: each of so many parts has what the node has, and what a way gains
abbrev pub of_touches : ℕ → ℕ → Option Gains → Option Gains
of_touches parts so_far None = None
of_touches parts so_far (Some gains) = Some (record { least = parts * (so_far + gains.least); greatest = parts * (so_far + gains.greatest) })

-- numbers are refused by limits: there are none, the least is above the max, or the greatest below the min
abbrev pub refuses : ℤ → ℤ → Option Gains → Bool
refuses min max None = true
refuses min max (Some gains) = int_lt max (pos gains.least) || int_lt (pos gains.greatest) min
