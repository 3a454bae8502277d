-- The places of a node's leads, one more after another.
use Rattle.std.proofs.Common.{◌≡◌, ℕ, ◌+◌, ◌<◌, List, [], ◌∷◌, ◌++◌, length, get_or, refl, ap, ◌∙◌}
use Rattle.std.proofs.lemmas.List.{get_or_default}
use Rattle.cr_path.specs.declared.numbers.table.LeadRecord.{LeadRecord}
use Rattle.cr_path.specs.Numbers.{NumberParts, no_record, next_at, places_from, base_from}

pub places_more : (t : NumberParts) (base : ℕ) (node : List ℕ) (step : ℕ) → places_from t base (node ++ step ∷ []) ≡ places_from t base node ++ (base_from t base node + step) ∷ []
places_more t base [] step = refl
places_more t base (first ∷ node) step = ap (λ places. (base + first) ∷ places) (places_more t (next_at t (base + first)) node step)

pub base_more : (t : NumberParts) (base : ℕ) (node : List ℕ) (step : ℕ) → base_from t base (node ++ step ∷ []) ≡ next_at t (base_from t base node + step)
base_more t base [] step = refl
base_more t base (first ∷ node) step = base_more t (next_at t (base + first)) node step

-- the head after a lead, by its record
pub next_is : (t : NumberParts) (place : ℕ) (lead d : LeadRecord) → place < length t.records → lead ≡ get_or t.records place d → lead.next ≡ next_at t place
next_is t place lead d inside is = ap (λ (r : LeadRecord). r.next) (is ∙ get_or_default t.records place d no_record inside)
