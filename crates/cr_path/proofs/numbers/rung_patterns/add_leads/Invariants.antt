use Rattle.std.proofs.Common.{◌≡◌, ◌++◌, List, map}
use Rattle.std.specs.List.{range_with_len}
use Rattle.cr_model.specs.declared.query.Cell.{Cell}
use Rattle.cr_model.specs.Right.{FitsStage}
use Rattle.cr_query.specs.Shapes.{shape_of}
use Rattle.cr_path.specs.Numbers.{lead_fitting}
use Rattle.cr_path.proofs.numbers.rung_patterns.add_leads.Given as goal

abbrev pub invariant-loop-step : goal.invariant-loop-step
invariant-loop-step l =
    (cells : List Cell) → FitsStage l.leads.stage cells → l.shape ≡ shape_of l.leads.stage cells
    → l.numbers.items ≡ l.initial.numbers.items ++ map (lead_fitting l.leads cells l.head) (range_with_len 0 l.step)
