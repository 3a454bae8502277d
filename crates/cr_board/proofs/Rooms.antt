-- The room for jobs that go back, after each move.
use Rattle.std.proofs.Common.{◌≡◌, ◌≢◌, ℕ, zero, suc, ◌+◌, ◌<◌, ◌≤◌, true, false, cond, List, length, get_or, set, replicate, Option, Some, None, is_some, vec_len, inl, inr, refl, sym, ap, ◌∙◌, subst, arith}
use Rattle.std.specs.Prelude.{vec_capacity}
use Rattle.std.specs.Global.{Vec}
use Rattle.std.proofs.lemmas.Bool.{cases_eq, false≢true}
use Rattle.std.proofs.lemmas.List.{get_or-set_same, get_or-set_other}
use Rattle.std.proofs.lemmas.List.Sums.{sum_by-set, count_by-le-length}
use Rattle.std.proofs.lemmas.List.Folds.{sum_by-replicate}
use Rattle.cr_board.specs.Jobs.{JobParts}
use Rattle.cr_board.specs.Boards.{held_at}
use Rattle.cr_board.specs.Choices.{is_holding}
use Rattle.cr_board.specs.Rooms.{HasRoom, HasRooms, holding}
use Rattle.cr_board.specs.declared.held.Held.{Held}
use Rattle.cr_board.specs.declared.state.State.{State}

-- no more hold a job than there are
pub few_holding : (held : List (Option Held)) → holding held ≤ length held
few_holding held = count_by-le-length is_some held

-- one more holds a job
pub hold_count : (held : List (Option Held)) (worker : ℕ) (mine : Held) → worker < length held → held_at held worker ≡ None → holding (set held worker (Some mine)) ≡ holding held + 1
hold_count held worker mine inside idle =
    let count : Option Held → ℕ = λ h. cond (is_some h) 1 0 in
    let changed = sum_by-set count held worker (Some mine) None inside in
    let before : count (held_at held worker) ≡ 0 = ap count idle in
    omega (arith, changed, before)

-- one less
pub free_count : (held : List (Option Held)) (worker : ℕ) → worker < length held → is_holding held worker ≡ true → holding (set held worker None) + 1 ≡ holding held
free_count held worker inside holds =
    let count : Option Held → ℕ = λ h. cond (is_some h) 1 0 in
    let changed = sum_by-set count held worker None None inside in
    let before : count (held_at held worker) ≡ 1 = ap (λ b. cond b 1 0) holds in
    omega (arith, changed, before)

module _ (lanes new : List (Vec JobParts)) (held : List (Option Held)) (worker : ℕ)
    (rooms : (k : ℕ) → is_holding held k ≡ true → HasRoom lanes k 1) where
  -- the worker took a job
  pub hold_lanes : (mine : Held) → ((lane more : ℕ) → HasRoom lanes lane more → HasRoom new lane more) → HasRoom lanes worker 1
      → (k : ℕ) → is_holding (set held worker (Some mine)) k ≡ true → HasRoom new k 1
  hold_lanes mine kept own k holds = elim (cases_eq k worker) [
    | inl e ↦ kept k 1 (subst (λ w. HasRoom lanes w 1) (sym e) own)
    | inr differ ↦ kept k 1 (rooms k (ap is_some (sym (get_or-set_other held worker k (Some mine) None differ)) ∙ holds))
  ]

  -- it holds nothing now, and jobs came to its lane
  pub free_lanes : worker < length held → ((lane more : ℕ) → lane ≢ worker → HasRoom lanes lane more → HasRoom new lane more)
      → (k : ℕ) → is_holding (set held worker None) k ≡ true → HasRoom new k 1
  free_lanes inside others k holds = elim (cases_eq k worker) [
    | inl e ↦ absurd (false≢true (sym (ap is_some (ap (λ w. get_or (set held worker None) w None) e ∙ get_or-set_same held worker None None inside)) ∙ holds))
    | inr differ ↦ others k 1 differ (rooms k (ap is_some (sym (get_or-set_other held worker k None None differ)) ∙ holds))
  ]

-- a state with more room and the same in it
pub rooms_stay : (s t : State) → t.held ≡ s.held → ((lane more : ℕ) → HasRoom s.lanes.items lane more → HasRoom t.lanes.items lane more)
    → vec_len t.journal ≡ vec_len s.journal → vec_capacity s.journal ≤ vec_capacity t.journal → HasRooms s → HasRooms t
rooms_stay s t same kept len more rooms = record {
  lanes = λ worker holds. kept worker 1 (rooms.lanes worker (ap (λ h. is_holding h.items worker) (sym same) ∙ holds));
  journal =
      let count : holding t.held.items ≡ holding s.held.items = ap (λ h. holding h.items) same in
      omega (arith, rooms.journal, count, len, more);
}

-- nobody holds a job
pub none_holding : (count k : ℕ) → is_holding (replicate count None) k ≡ false
none_holding zero k = refl
none_holding (suc count) zero = refl
none_holding (suc count) (suc k) = none_holding count k

pub holding_none : (count : ℕ) → holding (replicate count None) ≡ 0
holding_none count = sum_by-replicate (λ h. cond (is_some h) 1 0) count None ∙ omega arith
