-- Below which length a child may live.
use Rattle.std.proofs.Common.{◌≡◌, ℕ, ◌+◌, ◌*◌, ◌<◌, Bool, true, false, not, ◌&&◌, ◌||◌, List, length, get_or, nat_lt, refl, sym, ap, ap₂, ◌∙◌, inl, inr, arith}
use Rattle.std.specs.Prelude.{min, ◌⊎◌}
use Rattle.std.proofs.lemmas.Bool.Decides.{nat_tests}
use Rattle.std.proofs.lemmas.List.FromFn.{get_or-map-range_with_len, length-map-range_with_len}
use Rattle.cr_model.specs.Problems.{ProblemParts}
use Rattle.cr_model.specs.Callings.{shortest, lead_length}
use Rattle.cr_model.specs.Queries.{cap, part_cap}
use Rattle.cr_model.specs.Levels.{at_least}
use Rattle.cr_model.specs.Sizes.{most_rows}
use Rattle.cr_path.specs.Numbers.{lead_from, head_after, brings_round, dies_after}
use Rattle.cr_path.specs.PathLimits.{has_row_twice, false_leads}

-- which leads have a row twice, by step
pub twice_at : (p : ProblemParts) (twice : List Bool) (step : ℕ) (d : Bool) → twice ≡ false_leads p (length p.leads) → step < length p.leads
    → get_or twice step d ≡ has_row_twice p step
twice_at p twice step d is inside =
    ap (λ (flags : List Bool). get_or flags step d) is
    ∙ get_or-map-range_with_len (has_row_twice p) 0 (length p.leads) step step d inside (omega arith)

pub twice_counted : (p : ProblemParts) (twice : List Bool) → twice ≡ false_leads p (length p.leads) → length twice ≡ length p.leads
twice_counted p twice is = ap length is ∙ length-map-range_with_len (has_row_twice p) 0 (length p.leads)

-- no length is below 0
none_below : (rung : ℕ) → nat_lt rung 0 ≡ false
none_below rung = grind (arith, nat_tests)

-- below both of two
both_below : (rung a b : ℕ) → nat_lt rung (min a b) ≡ (nat_lt rung a && nat_lt rung b)
both_below rung a b = grind (arith, nat_tests)

-- a reason holds of all lengths, or none but those of the length
always : (long twice round far : Bool) → (round ≡ true) ⊎ (twice ≡ true) → false ≡ not (long || (twice || (round || far)))
always true twice round far why = refl
always false true round far why = refl
always false false true far why = refl
always false false false far (inl e) = absurd (cc)
always false false false far (inr e) = absurd (cc)

sometimes : (long far : Bool) → (not long && not far) ≡ not (long || (false || (false || far)))
sometimes true far = refl
sometimes false far = refl

module _ (p : ProblemParts) (head : List ℕ) (step rung : ℕ) (round twice : Bool) (round_is : round ≡ brings_round p (lead_from p head step))
    (twice_is : twice ≡ has_row_twice p step) where
  pub dies_always : (round ≡ true) ⊎ (twice ≡ true) → nat_lt rung 0 ≡ not (dies_after p head step rung)
  dies_always why =
      none_below rung
      ∙ always (nat_lt (part_cap p) (rung + lead_length p step)) twice round
      (nat_lt (cap p) (rung + lead_length p step + shortest p * at_least p most_rows (head_after p head step))) why
      ∙ ap₂ (λ (t h : Bool). not (nat_lt (part_cap p) (rung + lead_length p step)
      || (t || (h || nat_lt (cap p) (rung + lead_length p step + shortest p * at_least p most_rows (head_after p head step)))))) twice_is round_is

  pub dies_from : (after : List ℕ) (part touch length' least : ℕ) → after ≡ head_after p head step → round ≡ false → twice ≡ false
      → length' ≡ lead_length p step → least ≡ shortest p * at_least p most_rows after
      → nat_lt rung part ≡ not (nat_lt (part_cap p) (rung + length')) → nat_lt rung touch ≡ not (nat_lt (cap p) (rung + (length' + least)))
      → nat_lt rung (min part touch) ≡ not (dies_after p head step rung)
  dies_from after part touch length' least after_is not_round not_twice length_is least_is part_is touch_is =
      let whole : rung + (length' + least) ≡ rung + lead_length p step + shortest p * at_least p most_rows (head_after p head step) =
      let l : least ≡ shortest p * at_least p most_rows (head_after p head step) = least_is ∙ ap (λ h. shortest p * at_least p most_rows h) after_is in
      omega (arith, length_is, l) in
      both_below rung part touch
      ∙ ap₂ (λ (a b : Bool). a && b)
      (part_is ∙ ap (λ l. not (nat_lt (part_cap p) (rung + l))) length_is)
      (touch_is ∙ ap (λ l. not (nat_lt (cap p) l)) whole)
      ∙ sometimes (nat_lt (part_cap p) (rung + lead_length p step))
      (nat_lt (cap p) (rung + lead_length p step + shortest p * at_least p most_rows (head_after p head step)))
      ∙ ap₂ (λ (t h : Bool). not (nat_lt (part_cap p) (rung + lead_length p step)
      || (t || (h || nat_lt (cap p) (rung + lead_length p step + shortest p * at_least p most_rows (head_after p head step))))))
      (sym not_twice ∙ twice_is) (sym not_round ∙ round_is)
