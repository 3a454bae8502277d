-- Where the record of a head and a step stands.
use Rattle.std.proofs.Common.{◌≡◌, ℕ, ◌+◌, ◌*◌, ◌/◌, ◌<◌, ◌≤◌, Bool, List, [], ◌∷◌, length, get_or, sym, ap, ◌∙◌, subst, arith}
use Rattle.std.specs.List.{list_any}
use Rattle.std.proofs.lemmas.Nat.{row_fits, div-mul-add}
use Rattle.cr_row.specs.Rows.{rounds}
use Rattle.cr_model.specs.Problems.{ProblemParts}
use Rattle.cr_model.specs.Levels.{is_listed}
use Rattle.cr_path.specs.declared.numbers.table.LeadRecord.{LeadRecord}
use Rattle.cr_path.specs.Marks.{some_marked, TellOf}
use Rattle.cr_path.specs.Numbers.{NumberParts, lead_from, head_after, numbers_of, is_seen, IsBase, StartsHead, IsRecord, IsTold, IsNumbered}

pub record_within : (head step heads steps : ℕ) → head < heads → step < steps → head * steps + step < heads * steps
record_within head step heads steps low within =
    let whole : head * steps + steps ≤ heads * steps = row_fits head steps heads steps low (omega arith) in
    omega (arith, whole)

-- the numbers of a lead end within all of them
pub numbers_within : (place records width numbers : ℕ) → place < records → numbers ≡ records * width → place * width + width ≤ numbers
numbers_within place records width numbers low counted =
    let whole : place * width + width ≤ records * width = row_fits place width records width low (omega arith) in
    omega (arith, whole, counted)

-- the records of rounds start first
pub root_base : (p : ProblemParts) (t : NumberParts) → IsNumbered p t → IsBase t (rounds p.stage) 0
root_base p t numbered =
    let start : 0 ≡ 0 * t.steps = omega arith in
    record { number = 0; numbered = numbered.some_head; starts = start; is = numbered.first_head }

module _ (t : NumberParts) (row : List ℕ) (base : ℕ) (from : IsBase t row base) where
  -- the head is found from where its records start
  pub number_is : 0 < t.steps → base / t.steps ≡ from.number
  number_is some =
      let none : from.number * t.steps ≡ from.number * t.steps + 0 = omega arith in
      ap (λ n. n / t.steps) (from.starts ∙ none) ∙ div-mul-add from.number t.steps 0 some

  pub head_is : 0 < t.steps → get_or t.heads (base / t.steps) [] ≡ row
  head_is some = ap (λ n. get_or t.heads n []) (number_is some) ∙ from.is

  pub some_head : StartsHead t base
  some_head = record { row = row; is = from }

  module _ (step : ℕ) where
    abbrev place : ℕ
    place = from.number * t.steps + step

    place_is : base + step ≡ place
    place_is = ap (λ n. n + step) from.starts

    pub place_within : (records : ℕ) → records ≡ length t.heads * t.steps → step < t.steps → base + step < records
    place_within records counted known =
        omega (arith, counted, place_is, record_within from.number step (length t.heads) t.steps from.numbered known)

    -- what is known of the lead there
    module _ (p : ProblemParts) (numbered : IsNumbered p t) (known : step < length p.leads) where
      tabled : step < t.steps
      tabled = subst (λ n. step < n) (sym numbered.counted) known

      pub record_at : (lead d : LeadRecord) → lead ≡ get_or t.records (base + step) d → IsRecord p t row step (base + step) lead
      record_at lead d is =
          subst (IsRecord p t row step (base + step)) (sym is)
          (subst (λ (n : ℕ). IsRecord p t row step n (get_or t.records n d)) (sym place_is)
          (subst (λ (head : List ℕ). IsRecord p t head step place (get_or t.records place d)) from.is
          (numbered.each from.number step d from.numbered tabled)))

      pub lead_is_told : IsTold p t ((base + step) ∷ []) (lead_from p row step)
      lead_is_told =
          subst (λ (n : ℕ). IsTold p t (n ∷ []) (lead_from p row step)) (sym place_is)
          (subst (λ (head : List ℕ). IsTold p t (place ∷ []) (lead_from p head step)) from.is (numbered.told from.number step from.numbered tabled))

      pub told_at : (places : List ℕ) (rows : List (List ℕ)) → IsTold p t places rows
          → list_any (is_seen t places) (numbers_of t (base + step)) ≡ list_any (is_listed rows) (lead_from p row step)
      told_at places rows told =
          ap (λ (n : ℕ). list_any (is_seen t places) (numbers_of t n)) place_is
          ∙ told.each from.number step from.numbered tabled
          ∙ ap (λ (head : List ℕ). list_any (is_listed rows) (lead_from p head step)) from.is

      pub tell_at : (rows : List (List ℕ)) (marks : List Bool) → TellOf p t rows marks
          → some_marked marks (numbers_of t (base + step)) ≡ list_any (is_listed rows) (lead_from p row step)
      tell_at rows marks tell =
          ap (λ (n : ℕ). some_marked marks (numbers_of t n)) place_is
          ∙ tell from.number step from.numbered tabled
          ∙ ap (λ (head : List ℕ). list_any (is_listed rows) (lead_from p head step)) from.is

-- the records of the head after a lead start where its record says
pub next_start : (p : ProblemParts) (t : NumberParts) → IsNumbered p t → (row : List ℕ) (base step place : ℕ) → IsBase t row base → step < length p.leads
    → place ≡ base + step → (lead : LeadRecord) → lead ≡ get_or t.records place lead → StartsHead t lead.next
next_start p t numbered row base step place from known place_is lead found =
    let is = record_at t row base from step p numbered known lead lead (found ∙ ap (λ (n : ℕ). get_or t.records n lead) place_is) in
    record { row = head_after p row step; is = is.next }
