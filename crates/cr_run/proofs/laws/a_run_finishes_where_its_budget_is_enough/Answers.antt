use Rattle.std.proofs.Common.{◌≤◌, sym, ◌∙◌, subst}
use Rattle.std.proofs.lemmas.Option.{none-some, same_Some}
use Rattle.cr_run.proofs.Ending.{finished, stopped, done_where_enough}
use Rattle.cr_run.specs.Runs.{opening_size}
use Rattle.cr_run.proofs.laws.a_run_finishes_where_its_budget_is_enough.Goals as goal

pub returns-clause-done : goal.returns-clause-done
returns-clause-done c = done_where_enough c.journals_tell_boards.ensures.budget c.a_board_covers_its_opening.ensures.covers

pub returns-clause-without_budget : goal.returns-clause-without_budget
returns-clause-without_budget c = λ o b kept run none. finished o b kept run (λ budget is. absurd (none-some budget (sym none ∙ is)))

pub returns-clause-finished : goal.returns-clause-finished
returns-clause-finished c = λ o b budget kept run is enough. finished o b kept run (λ other same. subst (λ most. opening_size o ≤ most) (same_Some budget other (sym is ∙ same)) enough)

pub returns-clause-stopped : goal.returns-clause-stopped
returns-clause-stopped c = stopped c.journals_tell_boards.ensures.budget c.a_board_covers_its_opening.ensures.covers
