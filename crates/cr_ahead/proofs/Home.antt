-- Ways home: the tests that decide them, and the kept touches below a node.
use Rattle.std.proofs.Common.{◌≡◌, ◌≢◌, ℕ, zero, suc, ◌+◌, ◌-◌, ◌*◌, ◌<◌, ◌≤◌, ◌↔◌, Bool, true, false, not, ◌||◌, T, ℤ, pos, ◌≤ℤ◌, ◌<ℤ◌, int_lt, int_le, List, [], ◌∷◌, ◌++◌, length, get_or, map, flat_map, All, Contains, Decides, inl, inr, refl, sym, ◌∙◌, subst, arith, le-leb, leb-true}
use Rattle.std.specs.List.{list_all, list_any, range_with_len, Any}
use Rattle.std.specs.Int.Signed.{le_z_yes, lt_z_yes}
use Rattle.std.proofs.Math.Nat.{mul_comm}
use Rattle.std.proofs.lemmas.Bool.{false≢true, or_cases, or_left, or_right}
use Rattle.std.proofs.lemmas.Bool.Decides.{Decides-and, Decides-or, Decides-like, Decides-not}
use Rattle.std.proofs.lemmas.Float.{T_from_true}
use Rattle.std.proofs.lemmas.Nat.{le-div}
use Rattle.std.proofs.lemmas.List.Elements.{All-head, All-tail, All-contains}
use Rattle.std.proofs.lemmas.List.FromFn.{get_or-range_with_len, length-range_with_len}
use Rattle.std.proofs.lemmas.Slice.Eq.{bytes_eq-Decides}
use Rattle.cr_row.specs.Rows.{rounds}
use Rattle.cr_model.specs.Problems.{ProblemParts}
use Rattle.cr_model.specs.Callings.{shortest, length_of, head_of}
use Rattle.cr_model.specs.Queries.{cap, part_cap}
use Rattle.cr_model.specs.Decided.{has_steps, reaches_min, within_cap}
use Rattle.cr_model.specs.Sound.{IsSound}
use Rattle.cr_model.specs.Dead.{parts_of, remaining_of, leads_left}
use Rattle.cr_model.proofs.Below.{words_length, some_parts, some_shortest, shortest_leads}
use Rattle.cr_model.proofs.Deciding.{all_decided, has_steps_decided}
use Rattle.cr_model.proofs.InOrder.{contains_more}
use Rattle.cr_model.proofs.Listed.{held_first, held_mapped, held_joined}
use Rattle.cr_model.proofs.NewRows.{step_listed}
use Rattle.cr_model.proofs.Ringing.{lengths_on}
use Rattle.cr_ahead.specs.Home.{power, IsPartEnd, is_round_after, fewer_parts, is_part_end, touch_with, IsWayHome, is_way_home, lists_of_steps, each_way_home}
use Rattle.cr_ahead.specs.Items.{Item, items_of, CannotMeet, cannot_meet, CannotCome, cannot_come, number_with}

-- tests of numbers
true_from_test : (b : Bool) → T b → b ≡ true
true_from_test true h = refl
true_from_test false h = absurd h

int_le_decided : (a b : ℤ) → Decides (int_le a b) (a ≤ℤ b)
int_le_decided a b = (λ h. le_z_yes (T_from_true (int_le a b) h), λ h. true_from_test (int_le a b) h.le)

pub int_lt_decided : (a b : ℤ) → Decides (int_lt a b) (a <ℤ b)
int_lt_decided a b = (λ h. lt_z_yes (T_from_true (int_lt a b) h), λ h. true_from_test (int_lt a b) h.lt)

-- the end of a part
pub round_decided : (p : ProblemParts) (row : List ℕ) (number : ℕ) → Decides (is_round_after p row number) (power p.stage row number ≡ rounds p.stage)
round_decided p row number = bytes_eq-Decides (power p.stage row number) (rounds p.stage)

pub end_decided : (p : ProblemParts) (row : List ℕ) → Decides (is_part_end p row) (IsPartEnd p row)
end_decided p row =
    Decides-like (is_part_end p row)
    (λ h. record { round = h.0; not_before = λ fewer some less. each h.1 fewer some less })
    (λ end. (end.round, λ k d inside. other end k d inside))
    (Decides-and (is_round_after p row (parts_of p)) (list_all (λ fewer. not (is_round_after p row fewer)) (fewer_parts p)) (round_decided p row (parts_of p))
    (all_decided (λ fewer. not (is_round_after p row fewer)) (λ fewer. power p.stage row fewer ≢ rounds p.stage)
    (λ fewer. Decides-not (is_round_after p row fewer) (round_decided p row fewer)) (fewer_parts p)))
  where
    long : length (fewer_parts p) ≡ parts_of p - 1
    long = length-range_with_len 1 _ ∙ omega arith

    each : All (λ fewer. power p.stage row fewer ≢ rounds p.stage) (fewer_parts p) → (fewer : ℕ) → 0 < fewer → fewer < parts_of p → power p.stage row fewer ≢ rounds p.stage
    each all fewer some less =
        let at : get_or (fewer_parts p) (fewer - 1) 0 ≡ fewer = get_or-range_with_len 1 _ (fewer - 1) 0 (omega arith) ∙ omega arith in
        subst (λ (n : ℕ). power p.stage row n ≢ rounds p.stage) at (all (fewer - 1) 0 (omega (arith, long)))

    other : IsPartEnd p row → (k d : ℕ) → k < length (fewer_parts p) → power p.stage row (get_or (fewer_parts p) k d) ≢ rounds p.stage
    other end k d inside =
        let at : 1 + k ≡ get_or (fewer_parts p) k d = sym (get_or-range_with_len 1 _ k d (omega (arith, long))) in
        subst (λ (n : ℕ). power p.stage row n ≢ rounds p.stage) at (end.not_before (1 + k) (omega arith) (omega (arith, long)))

-- a way home
pub way_decided : (p : ProblemParts) (node way : List ℕ) → Decides (is_way_home p node way) (IsWayHome p node way)
way_decided p node way =
    Decides-like (is_way_home p node way)
    (λ h. record { steps = h.0; long = h.1.0; short = h.1.1.0; ends = h.1.1.1 })
    (λ w. (w.steps, (w.long, (w.short, w.ends))))
    (Decides-and (has_steps p way) _ (has_steps_decided p way)
    (Decides-and (reaches_min p (touch_with p node way)) _ (int_le_decided p.query.min (pos (length_of p (touch_with p node way))))
    (Decides-and (within_cap p (touch_with p node way)) _ (leb-true (length_of p (touch_with p node way)) (cap p), le-leb (length_of p (touch_with p node way)) (cap p))
    (end_decided p (head_of p (node ++ way))))))

-- a way home is no longer than its part has room for
pub way_few : (p : ProblemParts) (node way : List ℕ) → IsSound p → IsWayHome p node way → length way ≤ leads_left p node
way_few p node way sound is =
    let long : length_of p (touch_with p node way) ≡ parts_of p * length_of p (node ++ way) = words_length p 0 (parts_of p) (node ++ way) in
    let short : length_of p (node ++ way) ≤ part_cap p =
    le-div (length_of p (node ++ way)) (cap p) (parts_of p) (some_parts p sound) (omega (arith, long, is.short, mul_comm (length_of p (node ++ way)) (parts_of p))) in
    le-div (length way) (remaining_of p node) (shortest p) (some_shortest p sound)
    (omega (arith, shortest_leads p way is.steps, short, lengths_on p node way))

-- it is listed
list_held : (steps most : ℕ) (way : List ℕ) → All (λ step. step < steps) way → length way ≤ most → Contains (lists_of_steps steps most) way
unfolding lists_of_steps
list_held steps zero [] known short = held_first [] []
list_held steps (suc n) [] known short = held_first [] (flat_map (λ step. map (λ rest. step ∷ rest) (lists_of_steps steps n)) (range_with_len 0 steps))
list_held steps zero (step ∷ way) known short = absurd (omega arith)
list_held steps (suc n) (step ∷ way) known short =
    let here : step < steps = All-head (λ s. s < steps) step way known in
    let rest : Contains (lists_of_steps steps n) way = list_held steps n way (All-tail (λ s. s < steps) step way known) (omega arith) in
    contains_more [] (step ∷ way) (flat_map (λ s. map (λ c. s ∷ c) (lists_of_steps steps n)) (range_with_len 0 steps))
    (held_joined (λ s. map (λ c. s ∷ c) (lists_of_steps steps n)) step (step ∷ way) (range_with_len 0 steps)
    (step_listed steps step here) (held_mapped (λ c. step ∷ c) way (lists_of_steps steps n) rest))

-- each way home passes a test
if_decided : {A B : Type 0} (a b : Bool) → Decides a A → Decides b B → Decides (not a || b) (A → B)
if_decided true b one other = (λ h _. other.0 h, λ f. other.1 (f (one.0 refl)))
if_decided false b one other = (λ h x. absurd (false≢true (one.1 x)), λ f. refl)

pub each_decided : (p : ProblemParts) (node : List ℕ) (test : List ℕ → Bool) (P : List ℕ → Type 0) → IsSound p → ((way : List ℕ) → Decides (test way) (P way))
    → Decides (each_way_home p node test) ((way : List ℕ) → IsWayHome p node way → P way)
each_decided p node test P sound each =
    Decides-like (each_way_home p node test)
    (λ all way is. All-contains (λ w. IsWayHome p node w → P w) (lists_of_steps (length p.leads) (leads_left p node)) way all
    (list_held (length p.leads) (leads_left p node) way is.steps (way_few p node way sound is)) is)
    (λ all k d inside. all (get_or (lists_of_steps (length p.leads) (leads_left p node)) k d))
    (all_decided (λ way. not (is_way_home p node way) || test way) (λ way. IsWayHome p node way → P way)
    (λ way. if_decided (is_way_home p node way) (test way) (way_decided p node way) (each way)) (lists_of_steps (length p.leads) (leads_left p node)))

itself_decided : (b : Bool) → Decides b (b ≡ true)
itself_decided b = (λ h. h, λ h. h)

pub each_tested : (p : ProblemParts) (node : List ℕ) (test : List ℕ → Bool) → IsSound p
    → (each_way_home p node test ≡ true) ↔ ((way : List ℕ) → IsWayHome p node way → test way ≡ true)
each_tested p node test sound = each_decided p node test (λ way. test way ≡ true) sound (λ way. itself_decided (test way))

-- an item, and all of them
pub item_decided : (p : ProblemParts) (node : List ℕ) (item : Item) → IsSound p → Decides (cannot_meet p node item) (CannotMeet p node item)
item_decided p node item sound =
    Decides-or (each_way_home p node (λ way. int_lt item.max (pos (number_with p node item way)))) (each_way_home p node (λ way. int_lt (pos (number_with p node item way)) item.min))
    (each_decided p node (λ way. int_lt item.max (pos (number_with p node item way))) (λ way. item.max <ℤ pos (number_with p node item way)) sound (λ way. int_lt_decided item.max (pos (number_with p node item way))))
    (each_decided p node (λ way. int_lt (pos (number_with p node item way)) item.min) (λ way. pos (number_with p node item way) <ℤ item.min) sound (λ way. int_lt_decided (pos (number_with p node item way)) item.min))

pub any_decided : {X : Type 0} (test : X → Bool) (P : X → Type 0) → ((x : X) → Decides (test x) (P x)) → (xs : List X) → Decides (list_any test xs) (Any P xs)
any_decided test P each [] = (λ h. absurd (false≢true h), λ any. let none : any.0 < 0 = any.2 in absurd (omega arith))
any_decided {X} test P each (x ∷ xs) = by (any_decided test P each xs)
  where
    there : Decides (list_any test xs) (Any P xs) → (test x || list_any test xs) ≡ true → Any P (x ∷ xs)
    there rest h = elim (or_cases (test x) (list_any test xs) h) [
      | inl here ↦ (0, x, omega arith, refl, (each x).0 here)
      | inr later ↦ let any = rest.0 later in (suc any.0, any.1, omega (arith, any.2), any.3, any.4)
    ]

    back : Decides (list_any test xs) (Any P xs) → (k : ℕ) (y : X) → k < length (x ∷ xs) → get_or (x ∷ xs) k y ≡ y → P y → (test x || list_any test xs) ≡ true
    back rest zero y inside at holds = or_left (test x) (list_any test xs) ((each x).1 (subst P (sym at) holds))
    back rest (suc k) y inside at holds = or_right (test x) (list_any test xs) (rest.1 (k, y, omega arith, at, holds))

    by : Decides (list_any test xs) (Any P xs) → Decides (list_any test (x ∷ xs)) (Any P (x ∷ xs))
    by rest = (there rest, λ any. back rest any.0 any.1 any.2 any.3 any.4)

pub none_decided : Decides false ⊥
none_decided = (λ h. absurd (false≢true h), λ x. absurd x)

pub come_decided : (p : ProblemParts) (node : List ℕ) → IsSound p → Decides (cannot_come p node) (CannotCome p node)
come_decided p node sound =
    Decides-or (each_way_home p node (λ way. false)) (list_any (cannot_meet p node) (items_of p))
    (each_decided p node (λ way. false) (λ way. ⊥) sound (λ way. none_decided))
    (any_decided (cannot_meet p node) (CannotMeet p node) (λ item. item_decided p node item sound) (items_of p))
