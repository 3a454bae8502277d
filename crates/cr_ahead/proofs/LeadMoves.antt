-- Moves from lead head to lead head go the ways home, and what they gain.
use Rattle.std.proofs.Common.{◌≡◌, ℕ, zero, suc, ◌+◌, ◌-◌, ◌*◌, ◌/◌, ◌<◌, ◌≤◌, ◌⊎◌, ◌↔◌, Bool, true, false, cond, ◌||◌, ℤ, pos, ◌≤ℤ◌, ◌<ℤ◌, int_lt, nat_abs, nat_eq, List, [], ◌∷◌, ◌++◌, length, get_or, count_by, All, Option, Some, None, IsNone, Decides, inl, inr, refl, sym, ap, ◌∙◌, subst, arith, rules, append-nil, length-append}
use Rattle.std.proofs.Math.Nat.{mul_comm, mul-le-mul_left}
use Rattle.std.proofs.lemmas.Bool.Decides.{Decides-or, Decides-like, same_from_decides}
use Rattle.std.proofs.lemmas.Int.{ints}
use Rattle.std.proofs.lemmas.Nat.{div-add-mod', mod_below, mul-le, div_below, le-div}
use Rattle.std.proofs.lemmas.List.Elements.{All-head, All-tail}
use Rattle.std.proofs.lemmas.List.Sums.{sum_by-cons, sum_by-append}
use Rattle.cr_row.specs.Rows.{Places}
use Rattle.cr_model.specs.declared.query.Cell.{Cell}
use Rattle.cr_model.specs.Problems.{ProblemParts}
use Rattle.cr_model.specs.Callings.{HasSteps, changes_of, changes_of_all, method_of, rows_from, last_of, rows_of, length_of, head_of}
use Rattle.cr_model.specs.Queries.{cap, part_cap, repeated, fits, rows_fitting, changes_of_method}
use Rattle.cr_model.specs.Levels.{head_from}
use Rattle.cr_model.specs.Sound.{IsSound, sound_range}
use Rattle.cr_model.specs.Dead.{parts_of}
use Rattle.cr_model.proofs.Below.{words, words_length, words_counted, words_com_least, words_com_most, some_parts}
use Rattle.cr_model.proofs.Ringing.{rows_from-append, last_of-append, rows_on, lengths_on, head_on}
use Rattle.cr_ahead.specs.declared.gains.Gains.{Gains}
use Rattle.cr_ahead.specs.Moves.{MovesParts, next_place, step_gain, is_end}
use Rattle.cr_ahead.specs.Ways.{place_after, gain_of, IsWay, Tells, IsAnswer}
use Rattle.cr_ahead.specs.Ways as ways
use Rattle.cr_ahead.specs.Home.{is_part_end, touch_with, IsWayHome, HasNoWayHome}
use Rattle.cr_ahead.specs.Items.{Item, number_with, CannotMeet, cannot_meet}
use Rattle.cr_ahead.specs.LeadMoves.{part_least, AreMovesOf, IsPlaceOf, HaveGains, HaveMethods, last_method, fitting_gain, changing_gain, of_touches, refuses}
use Rattle.cr_ahead.proofs.Home.{end_decided, int_lt_decided, item_decided}

-- a least length in parts
pub part_reaches : (all parts long : ℕ) → 1 ≤ parts → ((all + parts - 1) / parts ≤ long) ↔ (all ≤ parts * long)
part_reaches all parts long some = (there, back)
  where
    there : (all + parts - 1) / parts ≤ long → all ≤ parts * long
    there low =
        let quotient = div-add-mod' (all + parts - 1) parts in
        let rest = mod_below (all + parts - 1) parts some in
        let times : (all + parts - 1) / parts * parts ≤ long * parts = mul-le ((all + parts - 1) / parts) parts long parts low (omega arith) in
        omega (arith, quotient, rest, times, mul_comm long parts)

    back : all ≤ parts * long → (all + parts - 1) / parts ≤ long
    back enough =
        let below : all + parts - 1 < suc long * parts = omega (arith, mul_comm long parts) in
        let less : (all + parts - 1) / parts < suc long = div_below (all + parts - 1) parts (suc long) some below in
        omega arith

-- a greatest length in parts
pub part_fits : (all parts long : ℕ) → 1 ≤ parts → (long ≤ all / parts) ↔ (parts * long ≤ all)
part_fits all parts long some = (there, λ fits. le-div long all parts some (omega (arith, mul_comm long parts)))
  where
    there : long ≤ all / parts → parts * long ≤ all
    there low =
        let quotient = div-add-mod' all parts in
        let times : long * parts ≤ all / parts * parts = mul-le long parts (all / parts) parts low (omega arith) in
        omega (arith, quotient, times, mul_comm long parts)

-- a number that is not below 1, as a natural one
reaches : (least : ℤ) (number : ℕ) → pos 1 ≤ℤ least → (nat_abs least ≤ number) ↔ (least ≤ℤ pos number)
reaches least number from = (λ low. omega (arith, ints), λ low. omega (arith, ints))

-- changes rung in two parts
head_further : (row : List ℕ) (changes more : List Places) → head_from row (changes ++ more) ≡ head_from (head_from row changes) more
head_further row changes more =
    ap (last_of row) (rows_from-append row changes more) ∙ last_of-append row (rows_from row changes) (rows_from (last_of row (rows_from row changes)) more)

-- the steps of a way
first_step : (p : ProblemParts) (step : ℕ) (way : List ℕ) → HasSteps p (step ∷ way) → step < length p.leads
first_step p step way steps = All-head (λ s. s < length p.leads) step way steps

other_steps : (p : ProblemParts) (step : ℕ) (way : List ℕ) → HasSteps p (step ∷ way) → HasSteps p way
other_steps p step way steps = All-tail (λ s. s < length p.leads) step way steps

-- what each step brings, rung from a place
module _ (p : ProblemParts) (heads : List (List ℕ)) (m : MovesParts) (moves : AreMovesOf p heads m) where
  next_head : (place : ℕ) (row : List ℕ) (step : ℕ) → place < length heads → get_or heads place [] ≡ row → step < length p.leads
      → get_or heads (next_place m place step) [] ≡ head_from row (changes_of p step)
  next_head place row step there at known = moves.next place step there known ∙ ap (λ (r : List ℕ). head_from r (changes_of p step)) at

  pub walked : (place : ℕ) (row way : List ℕ) → place < length heads → get_or heads place [] ≡ row → HasSteps p way
      → (place_after m place way < length heads) × (get_or heads (place_after m place way) [] ≡ head_from row (changes_of_all p way))
  walked place row [] there at steps = (there, at)
  walked place row (step ∷ way) there at steps =
      let known = first_step p step way steps in
      let on = walked (next_place m place step) (head_from row (changes_of p step)) way (moves.there place step there known) (next_head place row step there at known) (other_steps p step way steps) in
      (on.0, on.1 ∙ sym (head_further row (changes_of p step) (changes_of_all p way)))

  pub same_length : (way : List ℕ) → HasSteps p way → ways.length_of m way ≡ length_of p way
  same_length [] steps = refl
  same_length (step ∷ way) steps =
      omega (arith, moves.lengths step (first_step p step way steps), same_length way (other_steps p step way steps), length-append (changes_of p step) (changes_of_all p way))

  -- leads that are counted
  pub counted_gain : (test : ℕ → Bool) → HaveGains p heads m (λ place step. cond (test step) 1 0)
      → (place : ℕ) (way : List ℕ) → place < length heads → HasSteps p way → gain_of m place way ≡ count_by test way
  counted_gain test gains place [] there steps = refl
  counted_gain test gains place (step ∷ way) there steps =
      let known = first_step p step way steps in
      let rest = counted_gain test gains (next_place m place step) way (moves.there place step there known) (other_steps p step way steps) in
      omega (arith, gains place step there known, rest, sum_by-cons (λ s. cond (test s) 1 0) step way)

  -- rows that fit
  pub fitting_gains : (cells : List Cell) → HaveGains p heads m (λ place step. fitting_gain p cells (get_or heads place []) step)
      → (place : ℕ) (row way : List ℕ) → place < length heads → get_or heads place [] ≡ row → HasSteps p way
      → gain_of m place way ≡ rows_fitting cells (rows_from row (changes_of_all p way))
  fitting_gains cells gains place row [] there at steps = refl
  fitting_gains cells gains place row (step ∷ way) there at steps =
      let known = first_step p step way steps in
      let first : step_gain m place step ≡ rows_fitting cells (rows_from row (changes_of p step)) = gains place step there known ∙ ap (λ (r : List ℕ). fitting_gain p cells r step) at in
      let rest = fitting_gains cells gains (next_place m place step) (head_from row (changes_of p step)) way (moves.there place step there known) (next_head place row step there at known) (other_steps p step way steps) in
      let all : rows_fitting cells (rows_from row (changes_of p step ++ changes_of_all p way))
      ≡ rows_fitting cells (rows_from row (changes_of p step)) + rows_fitting cells (rows_from (head_from row (changes_of p step)) (changes_of_all p way)) =
      ap (rows_fitting cells) (rows_from-append row (changes_of p step) (changes_of_all p way))
      ∙ sum_by-append (λ r. cond (fits cells r) 1 0) (rows_from row (changes_of p step)) (rows_from (head_from row (changes_of p step)) (changes_of_all p way)) in
      omega (arith, first, rest, all)

-- changes of method behind a last lead
abbrev pub changes_behind : ProblemParts → Option ℕ → List ℕ → ℕ
changes_behind p last [] = 0
changes_behind p last (step ∷ way) = changing_gain p last step + changes_behind p (Some (method_of p step)) way

behind_step : (p : ProblemParts) (step : ℕ) (way : List ℕ) → changes_of_method p (step ∷ way) ≡ changes_behind p (Some (method_of p step)) way
behind_step p step [] = refl
behind_step p step (next ∷ way) = ap (λ (n : ℕ). cond (nat_eq (method_of p step) (method_of p next)) 0 1 + n) (behind_step p next way)

pub behind_node : (p : ProblemParts) (node way : List ℕ) → changes_of_method p (node ++ way) ≡ changes_of_method p node + changes_behind p (last_method p node) way
behind_node p [] [] = refl
behind_node p [] (step ∷ way) = omega (arith, behind_step p step way)
behind_node p (step ∷ []) way = omega (arith, behind_step p step way)
behind_node p (step ∷ next ∷ node) way = omega (arith, behind_node p (next ∷ node) way)

-- one lead more
pub changed_more : (p : ProblemParts) (node : List ℕ) (step : ℕ) → changes_of_method p (node ++ step ∷ []) ≡ changes_of_method p node + changing_gain p (last_method p node) step
changed_more p node step = omega (arith, behind_node p node (step ∷ []))

pub last_more : (p : ProblemParts) (node : List ℕ) (step : ℕ) → last_method p (node ++ step ∷ []) ≡ Some (method_of p step)
last_more p [] step = refl
last_more p (first ∷ []) step = refl
last_more p (first ∷ next ∷ node) step = last_more p (next ∷ node) step

-- the last of some leads
pub last_at_end : (p : ProblemParts) (node : List ℕ) (i d : ℕ) → i + 1 ≡ length node → last_method p node ≡ Some (method_of p (get_or node i d))
last_at_end p [] i d all = absurd (omega (arith, all))
last_at_end p (first ∷ []) zero d all = refl
last_at_end p (first ∷ []) (suc i) d all = absurd (omega (arith, all))
last_at_end p (first ∷ next ∷ node) zero d all = absurd (omega (arith, all))
last_at_end p (first ∷ next ∷ node) (suc i) d all = last_at_end p (next ∷ node) i d (omega (arith, all))

no_change : (b : Bool) → cond b 0 1 ≤ 1
no_change true = omega arith
no_change false = omega arith

pub few_changes : (p : ProblemParts) (node : List ℕ) → changes_of_method p node ≤ length node
few_changes p [] = omega arith
few_changes p (step ∷ []) = omega arith
few_changes p (step ∷ next ∷ node) = omega (arith, no_change (nat_eq (method_of p step) (method_of p next)), few_changes p (next ∷ node))

module _ (p : ProblemParts) (heads : List (List ℕ)) (m : MovesParts) (moves : AreMovesOf p heads m) (methods : List (Option ℕ)) (have : HaveMethods p heads m methods)
    (gains : HaveGains p heads m (λ place step. changing_gain p (get_or methods place None) step)) where
  pub changing_gains : (place : ℕ) (last : Option ℕ) (way : List ℕ) → place < length heads → get_or methods place None ≡ last → HasSteps p way
      → gain_of m place way ≡ changes_behind p last way
  changing_gains place last [] there at steps = refl
  changing_gains place last (step ∷ way) there at steps =
      let known = first_step p step way steps in
      let first : step_gain m place step ≡ changing_gain p last step = gains place step there known ∙ ap (λ (l : Option ℕ). changing_gain p l step) at in
      omega (arith, first, changing_gains (next_place m place step) (Some (method_of p step)) way (moves.there place step there known) (have place step there known) (other_steps p step way steps))

-- the ways of the moves are the ways home
module _ (p : ProblemParts) (heads : List (List ℕ)) (m : MovesParts) (place : ℕ) (node : List ℕ) (sound : IsSound p) (moves : AreMovesOf p heads m) (at : IsPlaceOf p heads place node) where
  ends_same : (way : List ℕ) → HasSteps p way → is_end m (place_after m place way) ≡ is_part_end p (head_of p (node ++ way))
  ends_same way steps =
      let on = walked p heads m moves place (head_of p node) way at.there at.head steps in
      moves.ends (place_after m place way) on.0 ∙ ap (is_part_end p) (on.1 ∙ sym (head_on p node way))

  all_length : (way : List ℕ) → length_of p (touch_with p node way) ≡ parts_of p * length_of p (node ++ way)
  all_length way = words_length p 0 (parts_of p) (node ++ way)

  part_length : (way : List ℕ) → HasSteps p way → length_of p node + ways.length_of m way ≡ length_of p (node ++ way)
  part_length way steps = omega (arith, same_length p heads m moves way steps, lengths_on p node way)

  pub is_home : (way : List ℕ) → IsWay m (part_least p) (part_cap p) place (length_of p node) way → IsWayHome p node way
  is_home way is =
      let steps : HasSteps p way = subst (λ (n : ℕ). All (λ s. s < n) way) moves.steps is.are_steps in
      let part = part_length way steps in
      let enough : nat_abs p.query.min ≤ parts_of p * length_of p (node ++ way) =
      (part_reaches (nat_abs p.query.min) (parts_of p) (length_of p (node ++ way)) (some_parts p sound)).0 (omega (arith, is.at_least, part)) in
      let few : parts_of p * length_of p (node ++ way) ≤ cap p =
      (part_fits (cap p) (parts_of p) (length_of p (node ++ way)) (some_parts p sound)).0 (subst (λ (n : ℕ). n ≤ part_cap p) part is.at_most) in
      record {
        steps = steps;
        long = (reaches p.query.min (length_of p (touch_with p node way)) (sound_range p sound).from).0 (omega (arith, all_length way, enough));
        short = omega (arith, all_length way, few);
        ends = (end_decided p (head_of p (node ++ way))).0 (sym (ends_same way steps) ∙ is.at_end);
      }

  pub home_is : (way : List ℕ) → IsWayHome p node way → IsWay m (part_least p) (part_cap p) place (length_of p node) way
  home_is way is =
      let part = part_length way is.steps in
      let enough : nat_abs p.query.min ≤ length_of p (touch_with p node way) = (reaches p.query.min (length_of p (touch_with p node way)) (sound_range p sound).from).1 is.long in
      record {
        are_steps = subst (λ (n : ℕ). All (λ s. s < n) way) (sym moves.steps) is.steps;
        at_end = ends_same way is.steps ∙ (end_decided p (head_of p (node ++ way))).1 is.ends;
        at_least = subst (λ (n : ℕ). part_least p ≤ n) (sym part)
            ((part_reaches (nat_abs p.query.min) (parts_of p) (length_of p (node ++ way)) (some_parts p sound)).1 (omega (arith, all_length way, enough)));
        at_most = subst (λ (n : ℕ). n ≤ part_cap p) (sym part)
            ((part_fits (cap p) (parts_of p) (length_of p (node ++ way)) (some_parts p sound)).1 (omega (arith, all_length way, is.short)));
      }

  -- what an answer says of whole touches
  pub tells_touches : (number_of : List ℕ → ℕ) (parts so_far : ℕ) → ((way : List ℕ) → HasSteps p way → number_of way ≡ parts * (so_far + gain_of m place way))
      → (gains : Option Gains) → IsAnswer m (part_least p) (part_cap p) place (length_of p node) gains → Tells (IsWayHome p node) number_of (of_touches parts so_far gains)
  tells_touches number_of parts so_far each None none = λ way is. none way (home_is way is)
  tells_touches number_of parts so_far each (Some g) is = (
    record {
      one = is.0.one;
      holds = is_home is.0.one is.0.holds;
      is = each is.0.one (is_home is.0.one is.0.holds).steps ∙ ap (λ (n : ℕ). parts * (so_far + n)) is.0.is;
      no_less = λ way home.
          let low : g.least ≤ gain_of m place way = is.0.no_less way (home_is way home) in
          let both : so_far + g.least ≤ so_far + gain_of m place way = omega arith in
          omega (arith, each way home.steps, mul-le-mul_left parts both);
    },
    record {
      one = is.1.one;
      holds = is_home is.1.one is.1.holds;
      is = each is.1.one (is_home is.1.one is.1.holds).steps ∙ ap (λ (n : ℕ). parts * (so_far + n)) is.1.is;
      no_more = λ way home.
          let high : gain_of m place way ≤ g.greatest = is.1.no_more way (home_is way home) in
          let both : so_far + gain_of m place way ≤ so_far + g.greatest = omega arith in
          omega (arith, each way home.steps, mul-le-mul_left parts both);
    },
  )

  -- leads that are counted, in all parts
  pub counted_adds : (test : ℕ → Bool) → HaveGains p heads m (λ place step. cond (test step) 1 0) → (way : List ℕ) → HasSteps p way
      → count_by test (touch_with p node way) ≡ parts_of p * (count_by test node + gain_of m place way)
  counted_adds test have way steps =
      words_counted test 0 (parts_of p) (node ++ way)
      ∙ ap (λ (n : ℕ). parts_of p * n)
      (sum_by-append (λ s. cond (test s) 1 0) node way ∙ ap (λ (n : ℕ). count_by test node + n) (sym (counted_gain p heads m moves test have place way at.there steps)))

  pub tells_counted : (test : ℕ → Bool) (gains : Option Gains) → HaveGains p heads m (λ place step. cond (test step) 1 0)
      → IsAnswer m (part_least p) (part_cap p) place (length_of p node) gains
      → Tells (IsWayHome p node) (λ way. count_by test (touch_with p node way)) (of_touches (parts_of p) (count_by test node) gains)
  tells_counted test gains have answer = tells_touches (λ way. count_by test (touch_with p node way)) (parts_of p) (count_by test node) (counted_adds test have) gains answer

  -- changes of method in all parts
  pub changes_in_parts : (methods : List (Option ℕ)) → HaveMethods p heads m methods → get_or methods place None ≡ last_method p node
      → HaveGains p heads m (λ place step. changing_gain p (get_or methods place None) step) → (way : List ℕ) → IsWayHome p node way
      → (parts_of p * (changes_of_method p node + gain_of m place way) ≤ changes_of_method p (touch_with p node way))
      × (changes_of_method p (touch_with p node way) ≤ parts_of p * (changes_of_method p node + gain_of m place way) + parts_of p - 1)
  changes_in_parts methods known last have way is = by (parts_of p) (some_parts p sound)
    where
      part : changes_of_method p (node ++ way) ≡ changes_of_method p node + gain_of m place way
      part = behind_node p node way
          ∙ ap (λ (n : ℕ). changes_of_method p node + n) (sym (changing_gains p heads m moves methods known have place (last_method p node) way at.there last is.steps))

      by : (parts : ℕ) → 1 ≤ parts → (parts * (changes_of_method p node + gain_of m place way) ≤ changes_of_method p (repeated parts (node ++ way)))
          × (changes_of_method p (repeated parts (node ++ way)) ≤ parts * (changes_of_method p node + gain_of m place way) + parts - 1)
      by zero some = absurd (omega arith)
      by (suc parts) some =
          let same : suc parts * changes_of_method p (node ++ way) ≡ suc parts * (changes_of_method p node + gain_of m place way) = ap (λ (n : ℕ). suc parts * n) part in
          let low : suc parts * changes_of_method p (node ++ way) ≤ changes_of_method p (words 0 (suc parts) (node ++ way)) = words_com_least p 0 (suc parts) (node ++ way) in
          let high : changes_of_method p (words 0 (suc parts) (node ++ way)) ≤ suc parts * changes_of_method p (node ++ way) + parts = words_com_most p 0 parts (node ++ way) in
          (omega arith, omega arith)

  -- one part is the touch
  module _ (one : parts_of p ≡ 1) where
    the_part : (way : List ℕ) → touch_with p node way ≡ node ++ way
    the_part way = ap (λ (n : ℕ). repeated n (node ++ way)) one ∙ append-nil (node ++ way)

    pub fitting_adds : (cells : List Cell) → HaveGains p heads m (λ place step. fitting_gain p cells (get_or heads place []) step) → (way : List ℕ) → HasSteps p way
        → rows_fitting cells (rows_of p (touch_with p node way)) ≡ 1 * (rows_fitting cells (rows_of p node) + gain_of m place way)
    fitting_adds cells have way steps =
        let all : rows_fitting cells (rows_of p (touch_with p node way)) ≡ rows_fitting cells (rows_of p node) + rows_fitting cells (rows_from (head_of p node) (changes_of_all p way)) =
        ap (λ (c : List ℕ). rows_fitting cells (rows_of p c)) (the_part way) ∙ ap (rows_fitting cells) (rows_on p node way)
        ∙ sum_by-append (λ r. cond (fits cells r) 1 0) (rows_of p node) (rows_from (head_of p node) (changes_of_all p way)) in
        omega (arith, all, fitting_gains p heads m moves cells have place (head_of p node) way at.there at.head steps)

    pub tells_fitting : (cells : List Cell) (gains : Option Gains) → HaveGains p heads m (λ place step. fitting_gain p cells (get_or heads place []) step)
        → IsAnswer m (part_least p) (part_cap p) place (length_of p node) gains
        → Tells (IsWayHome p node) (λ way. rows_fitting cells (rows_of p (touch_with p node way))) (of_touches 1 (rows_fitting cells (rows_of p node)) gains)
    tells_fitting cells gains have answer =
        tells_touches (λ way. rows_fitting cells (rows_of p (touch_with p node way))) 1 (rows_fitting cells (rows_of p node)) (fitting_adds cells have) gains answer

    pub tells_changing : (methods : List (Option ℕ)) (gains : Option Gains) → HaveMethods p heads m methods → get_or methods place None ≡ last_method p node
        → HaveGains p heads m (λ place step. changing_gain p (get_or methods place None) step)
        → IsAnswer m (part_least p) (part_cap p) place (length_of p node) gains
        → Tells (IsWayHome p node) (λ way. changes_of_method p (touch_with p node way)) (of_touches 1 (changes_of_method p node) gains)
    tells_changing methods gains known last have answer = tells_touches (λ way. changes_of_method p (touch_with p node way)) 1 (changes_of_method p node) each gains answer
      where
        each : (way : List ℕ) → HasSteps p way → changes_of_method p (touch_with p node way) ≡ 1 * (changes_of_method p node + gain_of m place way)
        each way steps =
            let all : changes_of_method p (touch_with p node way) ≡ changes_of_method p node + changes_behind p (last_method p node) way =
            ap (changes_of_method p) (the_part way) ∙ behind_node p node way in
            omega (arith, all, changing_gains p heads m moves methods known have place (last_method p node) way at.there last steps)

-- what an answer of the numbers of touches says
pub none_told : (p : ProblemParts) (node : List ℕ) (number_of : List ℕ → ℕ) (gains : Option Gains) → Tells (IsWayHome p node) number_of gains → IsNone gains ↔ HasNoWayHome p node
none_told p node number_of None is = (λ h. is, λ h. search rules)
none_told p node number_of (Some g) is = (λ h. absurd (search rules), λ none. absurd (none is.0.one is.0.holds))

refuses_decided : (p : ProblemParts) (node : List ℕ) (item : Item) (gains : Option Gains) → Tells (IsWayHome p node) (number_with p node item) gains
    → Decides (refuses item.min item.max gains) (CannotMeet p node item)
refuses_decided p node item None none = (λ h. inl (λ way is. absurd (none way is)), λ h. refl)
refuses_decided p node item (Some g) is =
    Decides-like (int_lt item.max (pos g.least) || int_lt (pos g.greatest) item.min) there back
    (Decides-or (int_lt item.max (pos g.least)) (int_lt (pos g.greatest) item.min) (int_lt_decided item.max (pos g.least)) (int_lt_decided (pos g.greatest) item.min))
  where
    there : (item.max <ℤ pos g.least) ⊎ (pos g.greatest <ℤ item.min) → CannotMeet p node item
    there cuts = elim cuts [
      | inl over ↦ inl (λ way home. let low : g.least ≤ number_with p node item way = is.0.no_less way home in omega (arith, ints))
      | inr under ↦ inr (λ way home. let high : number_with p node item way ≤ g.greatest = is.1.no_more way home in omega (arith, ints))
    ]

    back : CannotMeet p node item → (item.max <ℤ pos g.least) ⊎ (pos g.greatest <ℤ item.min)
    back cannot = elim cannot [
      | inl above ↦ inl (subst (λ (n : ℕ). item.max <ℤ pos n) is.0.is (above is.0.one is.0.holds))
      | inr below ↦ inr (subst (λ (n : ℕ). pos n <ℤ item.min) is.1.is (below is.1.one is.1.holds))
    ]

pub refused : (p : ProblemParts) (node : List ℕ) (item : Item) (gains : Option Gains) → IsSound p → Tells (IsWayHome p node) (number_with p node item) gains
    → cannot_meet p node item ≡ refuses item.min item.max gains
refused p node item gains sound is =
    same_from_decides (cannot_meet p node item) (refuses item.min item.max gains) (item_decided p node item sound) (refuses_decided p node item gains is)
