-- A problem as the record of its parts: the stage, the methods' letters, the leads, and the query.
use Rattle.std.specs.Prelude.{◌≡◌, ℕ, ℤ, List, Option}
use Rattle.cr_row.specs.Rows.{Places}
use Rattle.cr_model.specs.declared.query.Count.{Count}
use Rattle.cr_model.specs.declared.query.MethodCount.{MethodCount}
use Rattle.cr_model.specs.declared.query.Cell.{Cell}
use Rattle.cr_model.specs.declared.query.Com.{Com}
use Rattle.cr_model.specs.declared.lead.Step.{Step}

-- a lead: its step, and its changes in the order in which they are rung
pub record LeadParts : Type 0 where
  pub step : Step
  pub changes : List Places

-- a pattern: its cells from the first place on, and how many rows may fit them
pub record PatternParts : Type 0 where
  pub cells : List Cell
  pub min : ℤ
  pub max : ℤ

-- what is asked of a touch
pub record QueryParts : Type 0 where
  pub min : ℤ
  pub max : ℤ
  pub parts : ℤ
  pub counts : List Count
  pub method_counts : List MethodCount
  pub patterns : List PatternParts
  pub «com» : Option Com

pub record ProblemParts : Type 0 where
  pub stage : ℕ
  pub letters : List ℕ
  pub leads : List LeadParts
  pub query : QueryParts

abbrev pub parts_from : ℕ → List ℕ → List LeadParts → QueryParts → ProblemParts
parts_from stage letters leads query = record { stage = stage; letters = letters; leads = leads; query = query }

-- parts that agree are one
pub same_lead_parts : (a b : LeadParts) → a.step ≡ b.step → a.changes ≡ b.changes → a ≡ b
same_lead_parts a b step changes = λ i. record { step = step i; changes = changes i }

pub same_pattern_parts : (a b : PatternParts) → a.cells ≡ b.cells → a.min ≡ b.min → a.max ≡ b.max → a ≡ b
same_pattern_parts a b cells low high = λ i. record { cells = cells i; min = low i; max = high i }

pub same_query_parts : (a b : QueryParts) → a.min ≡ b.min → a.max ≡ b.max → a.parts ≡ b.parts
    → a.counts ≡ b.counts → a.method_counts ≡ b.method_counts → a.patterns ≡ b.patterns → a.com ≡ b.com → a ≡ b
same_query_parts a b low high parts counts method_counts patterns limits = λ i. record {
  min = low i;
  max = high i;
  parts = parts i;
  counts = counts i;
  method_counts = method_counts i;
  patterns = patterns i;
  «com» = limits i;
}
