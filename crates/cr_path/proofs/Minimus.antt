-- Plain Bob Minimus by numbers.
use Rattle.std.proofs.Common.{◌≡◌, ◌≢◌, ℕ, zero, suc, ◌+◌, ◌*◌, ◌<◌, ◌≤◌, ◌↔◌, true, false, not, ◌||◌, nat_lt, List, [], ◌∷◌, length, get_or, refl, sym, ap, ◌∙◌, arith, lit<, lit≤}
use Rattle.std.specs.Prelude.{Contains}
use Rattle.std.specs.List.{list_any}
use Rattle.std.proofs.lemmas.Bool.{false≢true}
use Rattle.std.proofs.lemmas.Bool.Decides.{nat_tests, Decides-ltb}
use Rattle.cr_row.specs.Rows.{rounds}
use Rattle.cr_model.specs.Problems.{QueryParts, ProblemParts}
use Rattle.cr_model.specs.Queries.{extent}
use Rattle.cr_model.specs.Levels.{IsLevel, HasRoom, spread, level, up_to_level, depth, at_least, is_listed}
use Rattle.cr_model.specs.Sizes.{most_rows}
use Rattle.cr_model.specs.Examples.{minimus, asks}
use Rattle.cr_model.proofs.Deciding.{all_decided}
use Rattle.cr_path.specs.Numbers.{lead_from, power, numbers_of, is_seen, IsRecord, IsTold, IsNumbered}
use Rattle.cr_path.specs.Examples.{lead_at, minimus_numbers, minimus_asked, called, called_numbers}
use Rattle.cr_path.specs.declared.numbers.table.LeadRecord.{LeadRecord}
use Rattle.cr_path.proofs.NextHeads.{heads_staged}

-- the laws that this rests on
pub record LevelLaws : Type 0 where
  pub level : (p : ProblemParts) (leads : ℕ) (row : List ℕ) → Contains (level p leads) row ↔ IsLevel p leads row
  pub listed : (p : ProblemParts) (most : ℕ) (row : List ℕ) (leads : ℕ) → IsLevel p leads row → leads ≤ depth p most → at_least p most row ≡ leads
  pub greatest : (p : ProblemParts) (most leads : ℕ) → HasRoom p most leads → leads ≤ depth p most

module _ (laws : LevelLaws) (query : QueryParts) where
  abbrev p : ProblemParts
  p = minimus_asked query

  -- the three levels of one row each have room
  some_rows : (number : ℕ) → number ≤ 2 → level p number ≢ []
  unfolding spread
  some_rows zero low none = cc
  some_rows (suc zero) low none = cc
  some_rows (suc (suc zero)) low none = cc
  some_rows (suc (suc (suc number))) low none = absurd (omega arith)

  few_rows : length (up_to_level p 2) ≤ most_rows
  unfolding spread most_rows
  few_rows = lit≤ tt

  is_deep : 2 ≤ depth p most_rows
  is_deep = laws.greatest p most_rows 2 (record { rows = some_rows; few = few_rows })

  -- how far the heads are from rounds
  two_away : at_least p most_rows (1 ∷ 3 ∷ 4 ∷ 2 ∷ []) ≡ 2
  unfolding spread
  two_away = laws.listed p most_rows (1 ∷ 3 ∷ 4 ∷ 2 ∷ []) 2 ((laws.level p 2 (1 ∷ 3 ∷ 4 ∷ 2 ∷ [])).0 (0, lit< tt, refl)) is_deep

  pub one_away : at_least p most_rows (1 ∷ 4 ∷ 2 ∷ 3 ∷ []) ≡ 1
  unfolding spread
  one_away = laws.listed p most_rows (1 ∷ 4 ∷ 2 ∷ 3 ∷ []) 1 ((laws.level p 1 (1 ∷ 4 ∷ 2 ∷ 3 ∷ [])).0 (0, lit< tt, refl)) (omega (arith, is_deep))

  at_round : at_least p most_rows (1 ∷ 2 ∷ 3 ∷ 4 ∷ []) ≡ 0
  unfolding spread
  at_round = laws.listed p most_rows (1 ∷ 2 ∷ 3 ∷ 4 ∷ []) 0 ((laws.level p 0 (1 ∷ 2 ∷ 3 ∷ 4 ∷ [])).0 (0, lit< tt, refl)) (omega arith)

-- below which length a lead of eight changes may be rung, with rounds two leads, one or none from its end
below_1 : (rung : ℕ) → nat_lt rung 1 ≡ not (nat_lt 24 (rung + 8) || nat_lt 24 (rung + 8 + 8 * 2))
below_1 rung = grind (arith, nat_tests)

below_9 : (rung : ℕ) → nat_lt rung 9 ≡ not (nat_lt 24 (rung + 8) || nat_lt 24 (rung + 8 + 8 * 1))
below_9 rung = grind (arith, nat_tests)

below_17 : (rung : ℕ) → nat_lt rung 17 ≡ not (nat_lt 24 (rung + 8) || nat_lt 24 (rung + 8 + 8 * 0))
below_17 rung = grind (arith, nat_tests)

-- the records, and which leads tell of which
module _ (laws : LevelLaws) where
  first : IsRecord minimus minimus_numbers (1 ∷ 2 ∷ 3 ∷ 4 ∷ []) 0 0 (lead_at 1 1 false)
  unfolding extent power
  first = record {
    next = record { number = 1; numbered = lit< tt; starts = refl; is = refl };
    round = refl;
    limit = λ rung. below_1 rung
        ∙ ap (λ (leads : ℕ). not (nat_lt 24 (rung + 8) || nat_lt 24 (rung + 8 + 8 * leads))) (sym (two_away laws (asks 1 24 1)));
    long = refl;
  }

  second : IsRecord minimus minimus_numbers (1 ∷ 3 ∷ 4 ∷ 2 ∷ []) 0 1 (lead_at 2 9 false)
  unfolding extent power
  second = record {
    next = record { number = 2; numbered = lit< tt; starts = refl; is = refl };
    round = refl;
    limit = λ rung. below_9 rung
        ∙ ap (λ (leads : ℕ). not (nat_lt 24 (rung + 8) || nat_lt 24 (rung + 8 + 8 * leads))) (sym (one_away laws (asks 1 24 1)));
    long = refl;
  }

  third : IsRecord minimus minimus_numbers (1 ∷ 4 ∷ 2 ∷ 3 ∷ []) 0 2 (lead_at 0 17 true)
  unfolding extent power
  third = record {
    next = record { number = 0; numbered = lit< tt; starts = refl; is = refl };
    round = refl;
    limit = λ rung. below_17 rung
        ∙ ap (λ (leads : ℕ). not (nat_lt 24 (rung + 8) || nat_lt 24 (rung + 8 + 8 * leads))) (sym (at_round laws (asks 1 24 1)));
    long = refl;
  }

  each : (head step : ℕ) (d : LeadRecord) → head < 3 → step < 1
      → IsRecord minimus minimus_numbers (get_or minimus_numbers.heads head []) step (head * 1 + step) (get_or minimus_numbers.records (head * 1 + step) d)
  each zero zero d head_in step_in = first
  each (suc zero) zero d head_in step_in = second
  each (suc (suc zero)) zero d head_in step_in = third
  each (suc (suc (suc head))) zero d head_in step_in = absurd (omega arith)
  each head (suc step) d head_in step_in = absurd (omega arith)

  -- a test of each lead
  by_lead : (P : ℕ → ℕ → Type 0) → P 0 0 → P 1 0 → P 2 0 → (head step : ℕ) → head < 3 → step < 1 → P head step
  by_lead P first second third zero zero head_in step_in = first
  by_lead P first second third (suc zero) zero head_in step_in = second
  by_lead P first second third (suc (suc zero)) zero head_in step_in = third
  by_lead P first second third (suc (suc (suc head))) zero head_in step_in = absurd (omega arith)
  by_lead P first second third head (suc step) head_in step_in = absurd (omega arith)

  abbrev tells_with : ℕ → ℕ → ℕ → ℕ → Type 0
  tells_with place here head step = list_any (is_seen minimus_numbers (place ∷ [])) (numbers_of minimus_numbers (head * 1 + step))
      ≡ list_any (is_listed (lead_from minimus (get_or minimus_numbers.heads here []) 0)) (lead_from minimus (get_or minimus_numbers.heads head []) step)

  told : (head step : ℕ) → head < 3 → step < 1 → IsTold minimus minimus_numbers ((head * 1 + step) ∷ []) (lead_from minimus (get_or minimus_numbers.heads head []) step)
  told = by_lead (λ head step. IsTold minimus minimus_numbers ((head * 1 + step) ∷ []) (lead_from minimus (get_or minimus_numbers.heads head []) step))
      (record { first = refl; each = by_lead (tells_with 0 0) refl refl refl })
      (record { first = refl; each = by_lead (tells_with 1 1) refl refl refl })
      (record { first = refl; each = by_lead (tells_with 2 2) refl refl refl })

  pub numbered : IsNumbered minimus minimus_numbers
  numbered = record {
    counted = refl;
    some_head = lit< tt;
    first_head = refl;
    staged = heads_staged;
    some_row = lit< tt;
    within = (all_decided (λ (n : ℕ). nat_lt n 3) (λ (n : ℕ). n < 3) (λ n. Decides-ltb n 3) minimus_numbers.numbers).0 refl;
    each = each;
    told = told;
    twice = refl;
    fitting = refl;
  }

-- two leads that have rows in common
pub first_told_of : IsTold called (called_numbers 0) (1 ∷ []) (lead_from called (rounds 4) 1)
first_told_of = record { first = refl; each = each_told }
  where
    each_told : (head step : ℕ) → head < 1 → step < 2 → list_any (is_seen (called_numbers 0) (1 ∷ [])) (numbers_of (called_numbers 0) (head * 2 + step))
        ≡ list_any (is_listed (lead_from called (rounds 4) 1)) (lead_from called (get_or (called_numbers 0).heads head []) step)
    each_told zero zero head_in step_in = refl
    each_told zero (suc zero) head_in step_in = refl
    each_told zero (suc (suc step)) head_in step_in = absurd (omega arith)
    each_told (suc head) step head_in step_in = absurd (omega arith)

pub last_left_out : IsTold called (called_numbers 1) (1 ∷ []) (lead_from called (rounds 4) 1) → ⊥
last_left_out told = false≢true (told.each 0 0 (lit< tt) (lit< tt))

pub round_left_out : IsTold called (called_numbers 0) (0 ∷ []) (lead_from called (rounds 4) 1) → ⊥
round_left_out told = false≢true told.first
