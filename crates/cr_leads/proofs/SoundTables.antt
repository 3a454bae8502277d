-- What holds of the table of a problem.
use Rattle.std.proofs.Common.{◌≡◌, ℕ, suc, ◌+◌, ◌<◌, ◌≤◌, List, [], ◌∷◌, ◌++◌, length, get_or, map, refl, sym, ap, ap₂, ◌∙◌, subst, arith, append-nil}
use Rattle.std.specs.List.{range_with_len}
use Rattle.std.proofs.lemmas.List.Elements.{All-nil, All-cons, All-map}
use Rattle.std.proofs.lemmas.List.FromFn.{get_or-range_with_len, length-range_with_len, length-map-range_with_len, map-range_with_len_more}
use Rattle.cr_row.specs.Rows.{Places, IsRow, rounds, after}
use Rattle.cr_model.specs.Problems.{ProblemParts}
use Rattle.cr_model.specs.Callings.{changes_of, rows_from, rows_of}
use Rattle.cr_model.specs.Limits.{most_steps, most_lead_changes}
use Rattle.cr_model.specs.Right.{AreOfStage}
use Rattle.cr_model.specs.Sound.{IsSound, sound_leads, sound_steps}
use Rattle.cr_leads.specs.Tables.{AreRows, IsLead, IsTable, table_from, lead_table}

-- changes rung from a row make rows
pub rung_are_rows : ((change : Places) (row : List ℕ) → IsRow row → IsRow (after change row))
    → ((change : Places) (row : List ℕ) → length (after change row) ≡ length row)
    → (stage : ℕ) (row : List ℕ) (changes : List Places) → IsRow row → length row ≡ stage → AreRows stage (rows_from row changes)
rung_are_rows makes keeps stage row [] is long = All-nil (λ row. IsRow row × (length row ≡ stage))
rung_are_rows makes keeps stage row (change ∷ changes) is long =
    let next : length (after change row) ≡ stage = keeps change row ∙ long in
    All-cons (λ row. IsRow row × (length row ≡ stage)) (after change row) (rows_from (after change row) changes) (makes change row is, next)
    (rung_are_rows makes keeps stage (after change row) changes (makes change row is) next)

-- as many rows as changes
pub length_rung : (row : List ℕ) (changes : List Places) → length (rows_from row changes) ≡ length changes
length_rung row [] = refl
length_rung row (change ∷ changes) = ap suc (length_rung (after change row) changes)

-- the rows of one step
pub rows_of_one : (p : ProblemParts) (step : ℕ) → rows_of p (step ∷ []) ≡ rows_from (rounds p.stage) (changes_of p step)
rows_of_one p step = ap (rows_from (rounds p.stage)) (append-nil (changes_of p step))

pub sound_lead : ((change : Places) (row : List ℕ) → IsRow row → IsRow (after change row))
    → ((change : Places) (row : List ℕ) → length (after change row) ≡ length row)
    → ((n : ℕ) → IsRow (rounds n)) → ((n : ℕ) → length (rounds n) ≡ n)
    → (p : ProblemParts) (step : ℕ) → AreOfStage p.stage (changes_of p step) → IsLead p.stage (rows_of p (step ∷ []))
sound_lead makes keeps is_row long p step right =
    let number : length (rows_of p (step ∷ [])) ≡ length (changes_of p step) =
    ap length (rows_of_one p step) ∙ length_rung (rounds p.stage) (changes_of p step) in
    let some : 1 ≤ length (changes_of p step) = right.some in
    let few : length (changes_of p step) ≤ most_lead_changes = right.few in
    record {
      some = omega (arith, number, some);
      few = omega (arith, number, few);
      are_rows = subst (AreRows p.stage) (sym (rows_of_one p step)) (rung_are_rows makes keeps p.stage (rounds p.stage) (changes_of p step) (is_row p.stage) (long p.stage));
    }

pub sound_table : ((change : Places) (row : List ℕ) → IsRow row → IsRow (after change row))
    → ((change : Places) (row : List ℕ) → length (after change row) ≡ length row)
    → ((n : ℕ) → IsRow (rounds n)) → ((n : ℕ) → length (rounds n) ≡ n)
    → (p : ProblemParts) → IsSound p → IsTable (lead_table p)
sound_table makes keeps is_row long p sound =
    let number : length (lead_table p).leads ≡ length p.leads =
    length-map-range_with_len (λ step. rows_of p (step ∷ [])) 0 (length p.leads) in
    let few : length p.leads ≤ most_steps = sound_steps p sound in
    let lead : (k d : ℕ) → k < length (range_with_len 0 (length p.leads)) → IsLead p.stage (rows_of p (get_or (range_with_len 0 (length p.leads)) k d ∷ [])) =
    λ k d within.
    let below : k < length p.leads = subst (λ n. k < n) (length-range_with_len 0 (length p.leads)) within in
    let at : get_or (range_with_len 0 (length p.leads)) k d ≡ k =
    get_or-range_with_len 0 (length p.leads) k d below ∙ omega arith in
    subst (λ step. IsLead p.stage (rows_of p (step ∷ []))) (sym at)
    (sound_lead makes keeps is_row long p k ((sound_leads p sound).each k below).changes) in
    record {
      from = sound.stage_from;
      to = sound.stage_to;
      few = omega (arith, number, few);
      leads = All-map (IsLead p.stage) (λ step. rows_of p (step ∷ [])) (range_with_len 0 (length p.leads)) lead;
    }

-- a table with one lead more
pub table_more : (p : ProblemParts) (index stage : ℕ) (changes : List Places) (before now : List (List (List ℕ)))
    → stage ≡ p.stage → changes ≡ changes_of p index
    → before ≡ map (λ step. rows_of p (step ∷ [])) (range_with_len 0 index)
    → now ≡ before ++ rows_from (rounds stage) changes ∷ []
    → now ≡ map (λ step. rows_of p (step ∷ [])) (range_with_len 0 (index + 1))
table_more p index stage changes before now stage_is changes_is before_is is =
    is
    ∙ ap₂ (λ leads lead. leads ++ lead ∷ []) before_is
    (ap₂ (λ n list. rows_from (rounds n) list) stage_is changes_is ∙ sym (rows_of_one p index))
    ∙ sym (map-range_with_len_more (λ step. rows_of p (step ∷ [])) 0 index index (omega arith))

-- and with all
pub whole_table : (p : ProblemParts) (index stage : ℕ) (leads : List (List (List ℕ))) → stage ≡ p.stage
    → index ≡ length p.leads
    → leads ≡ map (λ step. rows_of p (step ∷ [])) (range_with_len 0 index) → table_from stage leads ≡ lead_table p
whole_table p index stage leads stage_is all is =
    ap₂ table_from stage_is (is ∙ ap (λ n. map (λ step. rows_of p (step ∷ [])) (range_with_len 0 n)) all)
