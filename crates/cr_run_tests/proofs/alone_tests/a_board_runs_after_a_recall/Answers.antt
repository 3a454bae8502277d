use Rattle.std.proofs.Common.{ap, ◌∙◌}
use Rattle.cr_board.specs.declared.event.Event.TheVariants.{Next, Recall}
use Rattle.cr_run_tests.proofs.alone_tests.a_board_runs_after_a_recall.Goals as goal

pub run-requires-clause-problem : goal.run-requires-clause-problem
run-requires-clause-problem g c =
    ap (λ o. o.problem) (c.events_only_append.ensures.opening c.next_job.new.self c.recall_all.new.self Recall c.recall_all.ensures
    ∙ c.events_only_append.ensures.opening c.in_ok-board.board c.next_job.new.self (Next 2) c.in_ok-next_job.ensures.board
    ∙ ap (λ b. b.opening) c.in_ok-board.ensures) ∙ c.in_ok-opening.ensures
