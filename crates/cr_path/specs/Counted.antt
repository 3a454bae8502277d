-- What is counted of a node, where the query asks for it.
use Rattle.std.specs.Prelude.{◌≡◌, ℕ, ◌+◌, ◌<◌, not, nat_eq, List, [], length, Option, Some, None, IfSome}
use Rattle.cr_model.specs.Problems.{ProblemParts, QueryParts}
use Rattle.cr_model.specs.Callings.{head_of}
use Rattle.cr_model.specs.Sound.{IsSound}
use Rattle.cr_model.specs.Sizes.{child}
use Rattle.cr_query.specs.Meters.{MeterParts, meter_from, is_hopeless_by_leads}
use Rattle.cr_query.specs.Sets.{has_step}
use Rattle.cr_path.specs.Numbers.{NumberParts, IsBase, IsNumbered}
use Rattle.cr_path.specs.declared.walks.node_counts.Counting.{Counting}

-- a query has no counts, no patterns and no limits on changes of method
pub record AsksNothing (query : QueryParts) : Type 0 where
  pub counts : query.counts ≡ []
  pub method_counts : query.method_counts ≡ []
  pub patterns : query.patterns ≡ []
  pub «com» : query.com ≡ None

-- nothing is counted
pub record IsIdle (counting : Counting) : Type 0 where
  pub meter : counting.meter ≡ None
  pub hopeless : counting.hopeless ≡ None

-- a meter stands at the node; or there is none, where nothing is asked
abbrev pub IsMeterOf : ProblemParts → List ℕ → Option MeterParts → Type 0
IsMeterOf p node None = AsksNothing p.query
IsMeterOf p node (Some meter) = meter ≡ meter_from p node

-- the steps with which a node has too many or too few leads
abbrev pub AreHopeless : ProblemParts → List ℕ → ℕ → Type 0
AreHopeless p node steps = (step : ℕ) → step < length p.leads → step < 32 → has_step steps step ≡ is_hopeless_by_leads p (child node step)

pub record IsCounted (p : ProblemParts) (node : List ℕ) (counting : Counting) : Type 0 where
  pub meter : IsMeterOf p node counting.meter
  pub patterns : counting.patterns ≡ not (nat_eq (length p.query.patterns) 0)
  pub hopeless : IfSome counting.hopeless (AreHopeless p node)

-- a meter can be told of the lead at a place, which is that of a step after a node
pub record CanCount (t : NumberParts) (place step : ℕ) (node : List ℕ) (meter : MeterParts) : Type 0 where
  pub sound : IsSound meter.problem
  pub numbered : IsNumbered meter.problem t
  pub known : step < length meter.problem.leads
  pub base : ℕ
  pub from : IsBase t (head_of meter.problem node) base
  pub is : place ≡ base + step
