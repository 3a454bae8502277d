-- The meter of a node, if there is one.
use Rattle.std.proofs.Common.{◌≡◌, ℕ, List, [], ◌++◌, map, Option, Some, None, IfSome, sym, ap, ap₂, subst}
use Rattle.cr_model.specs.declared.query.Count.{Count}
use Rattle.cr_model.specs.declared.query.MethodCount.{MethodCount}
use Rattle.cr_model.specs.Callings.{rows_of}
use Rattle.cr_model.specs.Problems.{PatternParts, ProblemParts}
use Rattle.cr_model.specs.Queries.{leads_marked, leads_lettered, rows_fitting}
use Rattle.cr_query.specs.Meters.{MeterParts, meter_from, item_numbers}
use Rattle.cr_path.specs.Counted.{AsksNothing, IsMeterOf}

-- what holds of the meter of a node holds of the one that there is, if there is one
pub of_meter : (p : ProblemParts) (node : List ℕ) (P : MeterParts → Type 0) (meter : Option MeterParts) → IsMeterOf p node meter → P (meter_from p node) → IfSome meter P
of_meter p node P None is holds = tt
of_meter p node P (Some m) is holds = subst P (sym is) holds

-- where nothing is asked there are no items
pub no_items : (p : ProblemParts) (node : List ℕ) → AsksNothing p.query → item_numbers p node ≡ []
no_items p node nothing =
    ap₂ (λ a b. a ++ b) (ap (map (λ (count : Count). leads_marked p count.mark node)) nothing.counts)
    (ap₂ (λ a b. a ++ b) (ap (map (λ (count : MethodCount). leads_lettered p count.letter node)) nothing.method_counts)
    (ap (map (λ (pattern : PatternParts). rows_fitting pattern.cells (rows_of p node))) nothing.patterns))
