-- Lead heads and leads by numbers, as contracts see them.
use Rattle.std.specs.Prelude.{◌≡◌, ℕ, zero, suc, ◌+◌, ◌-◌, ◌*◌, ◌/◌, ◌<◌, ◌≤◌, Bool, false, not, ◌&&◌, ◌||◌, nat_lt, nat_eq, List, [], ◌∷◌, length, get_or, map, flat_map, take, drop, All}
use Rattle.std.specs.Cmp.Lexicographic.{pointwise}
use Rattle.std.specs.List.{list_any, range_with_len}
use Rattle.cr_row.specs.Rows.{rounds, product}
use Rattle.cr_model.specs.declared.query.Cell.{Cell}
use Rattle.cr_model.specs.Problems.{PatternParts, ProblemParts}
use Rattle.cr_model.specs.Callings.{shortest, lead_length, rows_of, head_of}
use Rattle.cr_model.specs.Queries.{cap, part_cap, rows_fitting}
use Rattle.cr_model.specs.Decided.{rows_differ}
use Rattle.cr_model.specs.Dead.{parts_of, has_rounds}
use Rattle.cr_model.specs.Levels.{at_least, is_listed}
use Rattle.cr_model.specs.Sizes.{most_rows}
use Rattle.cr_path.specs.PathLimits.{false_leads}
use Rattle.cr_path.specs.declared.numbers.table.LeadRecord.{LeadRecord}

-- the number of steps; the heads, each at its number; how many representative rows there are; a record of each lead, of the first head's steps first; how many numbers each lead has, and in the order of the records the numbers of the representative rows of all leads; of each step whether its lead has a row twice; and of each pattern, in the order of the records, how many rows of each lead fit it
pub record NumberParts : Type 0 where
  pub steps : ℕ
  pub heads : List (List ℕ)
  pub rows : ℕ
  pub records : List LeadRecord
  pub width : ℕ
  pub numbers : List ℕ
  pub twice : List Bool
  pub fittings : List (List ℕ)

-- the rows of a step that is rung from a head, and the head after it
abbrev pub lead_from : ProblemParts → List ℕ → ℕ → List (List ℕ)
lead_from p head step = map (product head) (rows_of p (step ∷ []))

abbrev pub head_after : ProblemParts → List ℕ → ℕ → List ℕ
head_after p head step = product head (head_of p (step ∷ []))

-- how many rows of a step that is rung from a head fit some cells; the same of each step; and of each pattern for all heads, of the first head's steps first
abbrev pub lead_fitting : ProblemParts → List Cell → List ℕ → ℕ → ℕ
lead_fitting p cells head step = rows_fitting cells (lead_from p head step)

abbrev pub leads_fitting : ProblemParts → List Cell → List ℕ → List ℕ
leads_fitting p cells head = map (lead_fitting p cells head) (range_with_len 0 (length p.leads))

abbrev pub all_fitting : ProblemParts → List (List ℕ) → PatternParts → List ℕ
all_fitting p heads pattern = flat_map (leads_fitting p pattern.cells) heads

-- some rows have rounds before the last one, or last where there are several parts
abbrev pub brings_round : ProblemParts → List (List ℕ) → Bool
brings_round p rows =
    has_rounds p (take (length rows - 1) rows)
    || (has_rounds p (drop (length rows - 1) rows) && nat_lt 1 (parts_of p))

-- after so many changes, a step that is rung from a head is dead whatever was rung before: it is then too long, has a row twice in itself, brings rounds too early, or rounds is too far from its end
abbrev pub dies_after : ProblemParts → List ℕ → ℕ → ℕ → Bool
dies_after p head step rung =
    nat_lt (part_cap p) (rung + lead_length p step)
    || (not (rows_differ (rows_of p (step ∷ [])))
    || (brings_round p (lead_from p head step)
    || nat_lt (cap p) (rung + lead_length p step + shortest p * at_least p most_rows (head_after p head step))))

-- rounds of a stage by a row, so many times
unfoldable pub power : ℕ → List ℕ → ℕ → List ℕ
power stage row zero = rounds stage
power stage row (suc number) = product (power stage row number) row

-- a row leads to rounds as often as there are parts
abbrev pub comes_round : ProblemParts → List ℕ → Bool
comes_round p row = pointwise nat_eq (power p.stage row (parts_of p)) (rounds p.stage)

-- the numbers of the representative rows of the lead at a place, where some may stand twice
abbrev pub numbers_of : NumberParts → ℕ → List ℕ
numbers_of t place = take t.width (drop (place * t.width) t.numbers)

-- where the records of the head that is this row start
pub record IsBase (t : NumberParts) (row : List ℕ) (base : ℕ) : Type 0 where
  pub number : ℕ
  pub numbered : number < length t.heads
  pub starts : base ≡ number * t.steps
  pub is : get_or t.heads number [] ≡ row

-- the records of some head start here
pub record StartsHead (t : NumberParts) (base : ℕ) : Type 0 where
  pub row : List ℕ
  pub is : IsBase t row base

-- a record of a step that is rung from a head, at a place: where the records of the head that it leads to start, whether that comes round, the length below which it may live, its number of changes, and the numbers of the representative rows that stand in it
pub record IsRecord (p : ProblemParts) (t : NumberParts) (head : List ℕ) (step place : ℕ) (lead : LeadRecord) : Type 0 where
  pub next : IsBase t (head_after p head step) lead.next
  pub round : lead.round ≡ comes_round p (head_after p head step)
  pub limit : (rung : ℕ) → nat_lt rung lead.limit ≡ not (dies_after p head step rung)
  pub long : lead.length ≡ lead_length p step

-- what is read past the last record
abbrev pub no_record : LeadRecord
no_record = record { next = 0; limit = 0; length = 0; round = false }

-- where the records of the head after the lead at a place start
abbrev pub next_at : NumberParts → ℕ → ℕ
next_at t place = (get_or t.records place no_record).next

-- the places of the leads of some steps, from the head whose records start here on, and where the records of the head after them start
abbrev pub places_from : NumberParts → ℕ → List ℕ → List ℕ
places_from t base [] = []
places_from t base (step ∷ steps) = (base + step) ∷ places_from t (next_at t (base + step)) steps

abbrev pub base_from : NumberParts → ℕ → List ℕ → ℕ
base_from t base [] = base
base_from t base (step ∷ steps) = base_from t (next_at t (base + step)) steps

-- the same of a node, which begins at rounds
abbrev pub places_of : NumberParts → List ℕ → List ℕ
places_of t node = places_from t 0 node

abbrev pub base_of : NumberParts → List ℕ → ℕ
base_of t node = base_from t 0 node

-- a number is one of those of the leads at some places
abbrev pub is_seen : NumberParts → List ℕ → ℕ → Bool
is_seen t places number = list_any (λ place. list_any (nat_eq number) (numbers_of t place)) places

-- the numbers of the leads at some places tell of some rows: rounds is one of these exactly where 0 is one of the numbers, and a lead brings one of these exactly where it has one of the numbers
pub record IsTold (p : ProblemParts) (t : NumberParts) (places : List ℕ) (rows : List (List ℕ)) : Type 0 where
  pub first : is_seen t places 0 ≡ has_rounds p rows
  pub each : (head step : ℕ) → head < length t.heads → step < t.steps
      → list_any (is_seen t places) (numbers_of t (head * t.steps + step)) ≡ list_any (is_listed rows) (lead_from p (get_or t.heads head []) step)

-- they are numbers of a problem: rounds is the first head, two leads have a row in common exactly where they have a number in common, and a lead has rounds exactly where it has number 0
pub record IsNumbered (p : ProblemParts) (t : NumberParts) : Type 0 where
  pub counted : t.steps ≡ length p.leads
  pub some_head : 0 < length t.heads
  pub first_head : get_or t.heads 0 [] ≡ rounds p.stage
  pub staged : All (λ head. length head ≡ p.stage) t.heads
  pub some_row : 0 < t.rows
  pub within : All (λ number. number < t.rows) t.numbers
  pub each : (head step : ℕ) (d : LeadRecord) → head < length t.heads → step < t.steps
      → IsRecord p t (get_or t.heads head []) step (head * t.steps + step) (get_or t.records (head * t.steps + step) d)
  pub told : (head step : ℕ) → head < length t.heads → step < t.steps
      → IsTold p t ((head * t.steps + step) ∷ []) (lead_from p (get_or t.heads head []) step)
  pub twice : t.twice ≡ false_leads p (length p.leads)
  pub fitting : t.fittings ≡ map (all_fitting p t.heads) p.query.patterns

-- by head and step, head after head, to which of some heads each step leads
pub record AreNextHeads (p : ProblemParts) (heads : List (List ℕ)) (next : List ℕ) : Type 0 where
  pub staged : All (λ head. length head ≡ p.stage) heads
  pub counted : length next ≡ length heads * length p.leads
  pub there : All (λ number. number < length heads) next
  pub leads : (head step : ℕ) → head < length heads → step < length p.leads
      → get_or heads (get_or next (head * length p.leads + step) 0) [] ≡ head_after p (get_or heads head []) step

-- the number of the head after a lead, where each head has so many records
abbrev pub next_head : ℕ → LeadRecord → ℕ
next_head steps lead = lead.next / steps

-- what the fields keep
pub record AreKept (t : NumberParts) : Type 0 where
  pub some : 0 < t.steps
  pub steps : t.steps ≤ 24
  pub records : length t.records ≡ length t.heads * t.steps
  pub numbers : length t.numbers ≡ length t.records * t.width
