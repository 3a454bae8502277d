-- Which head each step leads to, by numbers.
use Rattle.std.proofs.Common.{◌≡◌, ℕ, zero, suc, ◌+◌, ◌*◌, ◌/◌, ◌%◌, ◌<◌, true, List, [], ◌∷◌, length, get_or, map, All, nat_eq, nat_lt, refl, sym, ap, ◌∙◌, subst, arith, lit<}
use Rattle.std.specs.List.{list_all}
use Rattle.std.proofs.lemmas.Bool.Decides.{Decides-eqb, Decides-ltb}
use Rattle.std.proofs.lemmas.List.{length-map, get_or-map}
use Rattle.std.proofs.lemmas.List.Elements.{All-map}
use Rattle.std.proofs.lemmas.Nat.{div-add-mod', div_below, mod_below}
use Rattle.cr_model.specs.Problems.{ProblemParts}
use Rattle.cr_model.specs.Examples.{minimus}
use Rattle.cr_model.proofs.Deciding.{all_decided}
use Rattle.cr_path.specs.declared.numbers.table.LeadRecord.{LeadRecord}
use Rattle.cr_path.specs.Examples.{minimus_numbers, called}
use Rattle.cr_path.specs.Numbers.{NumberParts, head_after, no_record, next_head, IsBase, IsNumbered, AreKept, AreNextHeads}
use Rattle.cr_path.proofs.Places.{record_within, number_is}

-- of a table's records the heads after the leads
module _ (p : ProblemParts) (t : NumberParts) (kept : AreKept t) (numbered : IsNumbered p t) where
  abbrev next : List ℕ
  next = map (next_head t.steps) t.records

  -- where the records of the head after a lead start
  starts : (head step : ℕ) (d : LeadRecord) → head < length t.heads → step < t.steps
      → IsBase t (head_after p (get_or t.heads head []) step) (get_or t.records (head * t.steps + step) d).next
  starts head step d head_in step_in = (numbered.each head step d head_in step_in).next

  -- each number is that of a head
  is_there : (place : ℕ) (d : LeadRecord) → place < length t.records → next_head t.steps (get_or t.records place d) < length t.heads
  is_there place d inside =
      let low : place < length t.heads * t.steps = omega (arith, inside, kept.records) in
      let head_in : place / t.steps < length t.heads = div_below place t.steps (length t.heads) kept.some low in
      let base = starts (place / t.steps) (place % t.steps) d head_in (mod_below place t.steps kept.some) in
      let number = number_is t _ _ base kept.some in
      subst (λ (n : ℕ). next_head t.steps (get_or t.records n d) < length t.heads) (div-add-mod' place t.steps)
      (subst (λ (n : ℕ). n < length t.heads) (sym number) base.numbered)

  -- and that of the head to which the step leads
  leads_to : (head step : ℕ) → head < length t.heads → step < t.steps
      → get_or t.heads (get_or next (head * t.steps + step) 0) [] ≡ head_after p (get_or t.heads head []) step
  leads_to head step head_in step_in =
      let base = starts head step no_record head_in step_in in
      let low : head * t.steps + step < length t.records = omega (arith, kept.records, record_within head step (length t.heads) t.steps head_in step_in) in
      ap (λ (n : ℕ). get_or t.heads n []) (get_or-map (next_head t.steps) t.records (head * t.steps + step) no_record 0 low ∙ number_is t _ _ base kept.some)
      ∙ base.is

  pub next_heads_are : AreNextHeads p t.heads (map (next_head t.steps) t.records)
  next_heads_are = record {
    staged = numbered.staged;
    counted = length-map t.records (next_head t.steps) ∙ kept.records ∙ ap (λ (n : ℕ). length t.heads * n) numbered.counted;
    there = All-map (λ number. number < length t.heads) (next_head t.steps) t.records is_there;
    leads = λ head step head_in step_in.
        ap (λ (n : ℕ). get_or t.heads (get_or next (head * n + step) 0) []) (sym numbered.counted)
        ∙ leads_to head step head_in (subst (λ (n : ℕ). step < n) (sym numbered.counted) step_in);
  }

-- the three heads of Plain Bob Minimus
pub heads_staged : All (λ (head : List ℕ). length head ≡ 4) minimus_numbers.heads
heads_staged = (all_decided (λ (head : List ℕ). nat_eq (length head) 4) (λ (head : List ℕ). length head ≡ 4) (λ head. Decides-eqb (length head) 4) minimus_numbers.heads).0 refl

below_three : (P : ℕ → Type 0) → P 0 → P 1 → P 2 → (n : ℕ) → n < 3 → P n
below_three P none one two zero inside = none
below_three P none one two (suc zero) inside = one
below_three P none one two (suc (suc zero)) inside = two
below_three P none one two (suc (suc (suc n))) inside = absurd (omega arith)

below_one : (P : ℕ → Type 0) → P 0 → (n : ℕ) → n < 1 → P n
below_one P none zero inside = none
below_one P none (suc n) inside = absurd (omega arith)

heads_there : (numbers : List ℕ) → list_all (λ number. nat_lt number 3) numbers ≡ true → All (λ number. number < 3) numbers
heads_there numbers = (all_decided (λ (number : ℕ). nat_lt number 3) (λ (number : ℕ). number < 3) (λ number. Decides-ltb number 3) numbers).0

-- to which of them the steps lead, as they stand head after head, and not otherwise
abbrev plain_next : List ℕ
plain_next = 1 ∷ 2 ∷ 0 ∷ []

abbrev called_next : List ℕ
called_next = 1 ∷ 0 ∷ 1 ∷ 2 ∷ 1 ∷ 2 ∷ 0 ∷ 2 ∷ 0 ∷ []

abbrev Leads : ProblemParts → List ℕ → ℕ → ℕ → Type 0
Leads p next head step = get_or minimus_numbers.heads (get_or next (head * length p.leads + step) 0) [] ≡ head_after p (get_or minimus_numbers.heads head []) step

plain_leads : (head : ℕ) → head < 3 → (step : ℕ) → step < 1 → Leads minimus plain_next head step
plain_leads =
    below_three (λ head. (step : ℕ) → step < 1 → Leads minimus plain_next head step)
    (below_one (Leads minimus plain_next 0) refl) (below_one (Leads minimus plain_next 1) refl) (below_one (Leads minimus plain_next 2) refl)

called_leads : (head : ℕ) → head < 3 → (step : ℕ) → step < 3 → Leads called called_next head step
called_leads =
    below_three (λ head. (step : ℕ) → step < 3 → Leads called called_next head step)
    (below_three (Leads called called_next 0) refl refl refl) (below_three (Leads called called_next 1) refl refl refl)
    (below_three (Leads called called_next 2) refl refl refl)

pub plain_are : AreNextHeads minimus minimus_numbers.heads (1 ∷ 2 ∷ 0 ∷ [])
plain_are = record {
  staged = heads_staged;
  counted = refl;
  there = heads_there plain_next refl;
  leads = λ head step head_in step_in. plain_leads head head_in step step_in;
}

pub called_are : AreNextHeads called minimus_numbers.heads (1 ∷ 0 ∷ 1 ∷ 2 ∷ 1 ∷ 2 ∷ 0 ∷ 2 ∷ 0 ∷ [])
called_are = record {
  staged = heads_staged;
  counted = refl;
  there = heads_there called_next refl;
  leads = λ head step head_in step_in. called_leads head head_in step step_in;
}

-- two numbers that differ are not one
apart : (a b : ℕ) → a ≡ b → a < b → ⊥
apart a b same less = absurd (omega arith)

pub exchanged_are_none : AreNextHeads minimus minimus_numbers.heads (2 ∷ 1 ∷ 0 ∷ []) → ⊥
exchanged_are_none are = apart 3 4 (sym (ap (λ (row : List ℕ). get_or row 1 0) (are.leads 0 0 (lit< tt) (lit< tt)))) (lit< tt)

pub turned_are_none : AreNextHeads called minimus_numbers.heads (1 ∷ 2 ∷ 0 ∷ 0 ∷ 1 ∷ 2 ∷ 1 ∷ 2 ∷ 0 ∷ []) → ⊥
turned_are_none are = apart 2 4 (sym (ap (λ (row : List ℕ). get_or row 1 0) (are.leads 0 1 (lit< tt) (lit< tt)))) (lit< tt)
