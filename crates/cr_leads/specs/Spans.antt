-- How the rows of all leads stand in one list, one lead's after another's.
use Rattle.std.specs.Prelude.{ℕ, ◌≤◌, List, length, map, All}
use Rattle.std.specs.List.{between}
use Rattle.cr_leads.specs.declared.table.Span.{Span}
use Rattle.cr_leads.specs.Tables.{table_from, IsTable}

-- the rows of the lead at a span
abbrev pub rows_at : List (List ℕ) → Span → List (List ℕ)
rows_at rows span = between span.start span.end rows

-- the leads' rows, lead by lead
abbrev pub leads_in : List (List ℕ) → List Span → List (List (List ℕ))
leads_in rows spans = map (rows_at rows) spans

-- a span is inside so many rows
pub record IsInside (number : ℕ) (span : Span) : Type 0 where
  pub order : span.start ≤ span.end
  pub end : span.end ≤ number

abbrev pub AreInside : List (List ℕ) → List Span → Type 0
AreInside rows spans = All (IsInside (length rows)) spans

-- what a table keeps
pub record AreKept (stage : ℕ) (rows : List (List ℕ)) (spans : List Span) : Type 0 where
  pub table : IsTable (table_from stage (leads_in rows spans))
  pub within : AreInside rows spans
