use Rattle.std.proofs.Common.{◌≡◌, ℕ, ◌-◌, List, ◌++◌, length}
use Rattle.cr_model.specs.Sizes.{children}
use Rattle.cr_log.specs.Logging.{IsLogged, children_from}
use Rattle.cr_log.proofs.logging.+log_below.Given as goal

abbrev pub decreases-log_below : goal.decreases-log_below
decreases-log_below l = 1025 - length l.place.now.steps.items

abbrev pub invariant-loop-step : goal.invariant-loop-step
invariant-loop-step l = record {
  steps : l.place.steps.items ≡ l.initial.place.steps.items;
  rows : l.place.rows ≡ l.initial.place.rows;
  logged : (due : List (List ℕ))
      → IsLogged l.problem l.initial.run.lines.items l.initial.run.book.items (children l.problem l.initial.place.steps.items ++ due)
      → IsLogged l.problem l.run.lines.items l.run.book.items (children_from l.problem l.initial.place.steps.items l.step ++ due);
}
