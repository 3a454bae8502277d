-- Ways home: the steps with which a node can still become the part of a touch. Truth is left aside.
use Rattle.std.specs.Prelude.{◌≡◌, ◌≢◌, ℕ, zero, suc, ◌-◌, ◌<◌, ◌≤◌, Bool, not, ◌&&◌, ◌||◌, pos, ◌≤ℤ◌, nat_eq, List, [], ◌∷◌, ◌++◌, length, map, flat_map}
use Rattle.std.specs.Cmp.Lexicographic.{pointwise}
use Rattle.std.specs.List.{list_all, range_with_len}
use Rattle.cr_row.specs.Rows.{rounds, product}
use Rattle.cr_model.specs.Problems.{ProblemParts}
use Rattle.cr_model.specs.Callings.{HasSteps, length_of, head_of}
use Rattle.cr_model.specs.Queries.{cap}
use Rattle.cr_model.specs.Decided.{has_steps, reaches_min, within_cap}
use Rattle.cr_model.specs.Dead.{parts_of, leads_left}
use Rattle.cr_model.specs.OneTurn.{touch_of}

-- rounds of a stage by a row, so many times
unfoldable pub power : ℕ → List ℕ → ℕ → List ℕ
power stage row zero = rounds stage
power stage row (suc number) = product row (power stage row number)

-- a part ends at a row: so many times as there are parts it is rounds, and fewer times it is not
pub record IsPartEnd (p : ProblemParts) (row : List ℕ) : Type 0 where
  pub round : power p.stage row (parts_of p) ≡ rounds p.stage
  pub not_before : (fewer : ℕ) → 0 < fewer → fewer < parts_of p → power p.stage row fewer ≢ rounds p.stage

abbrev pub is_round_after : ProblemParts → List ℕ → ℕ → Bool
is_round_after p row number = pointwise nat_eq (power p.stage row number) (rounds p.stage)

-- the numbers of parts from 1 on that are fewer than all
abbrev pub fewer_parts : ProblemParts → List ℕ
fewer_parts p = range_with_len 1 (parts_of p - 1)

abbrev pub is_part_end : ProblemParts → List ℕ → Bool
is_part_end p row =
    is_round_after p row (parts_of p)
    && list_all (λ fewer. not (is_round_after p row fewer)) (fewer_parts p)

-- the touch whose part is a node and some steps
abbrev pub touch_with : ProblemParts → List ℕ → List ℕ → List ℕ
touch_with p node way = touch_of p (node ++ way)

-- a way home of a node: steps that lead from it to the end of a part, and the touch of that part is as long as is asked
pub record IsWayHome (p : ProblemParts) (node way : List ℕ) : Type 0 where
  pub steps : HasSteps p way
  pub long : p.query.min ≤ℤ pos (length_of p (touch_with p node way))
  pub short : length_of p (touch_with p node way) ≤ cap p
  pub ends : IsPartEnd p (head_of p (node ++ way))

abbrev pub is_way_home : ProblemParts → List ℕ → List ℕ → Bool
is_way_home p node way =
    has_steps p way
    && (reaches_min p (touch_with p node way)
    && (within_cap p (touch_with p node way)
    && is_part_end p (head_of p (node ++ way))))

abbrev pub HasNoWayHome : ProblemParts → List ℕ → Type 0
HasNoWayHome p node = (way : List ℕ) → IsWayHome p node way → ⊥

-- all lists of at most so many steps, out of so many steps that there are
unfoldable pub lists_of_steps : ℕ → ℕ → List (List ℕ)
lists_of_steps steps zero = [] ∷ []
lists_of_steps steps (suc most) = [] ∷ flat_map (λ step. map (λ rest. step ∷ rest) (lists_of_steps steps most)) (range_with_len 0 steps)

-- each way home of a node passes a test. No way home has more steps than the part has room for
abbrev pub each_way_home : ProblemParts → List ℕ → (List ℕ → Bool) → Bool
each_way_home p node test =
    list_all (λ way. not (is_way_home p node way) || test way) (lists_of_steps (length p.leads) (leads_left p node))
