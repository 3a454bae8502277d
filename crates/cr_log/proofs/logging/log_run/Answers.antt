use Rattle.std.proofs.Common.{[]}
use Rattle.cr_log.proofs.Once.{log_proves, found_steps}
use Rattle.cr_log.proofs.logging.log_run.Goals as goal

pub sort_found-requires : goal.sort_found-requires
sort_found-requires c =
    let p = c.args.problem.now in
    found_steps p
    (record {
      turn = λ node valid. c.one_turn_splits_a_node.ensures p 0 node c.stage.ensures.sound valid;
      dies = λ node why. c.nothing_is_kept_below_a_dead_node.ensures p 0 node why c.stage.ensures.sound;
      decided = c.a_test_decides_what_is_kept.ensures p;
    })
    c.in_ok-run.run'.lines.items c.in_ok-run.run'.book.items [] c.in_ok-run.ensures

pub returns-clause-proves : goal.returns-clause-proves
returns-clause-proves c =
    let p = c.args.problem.now in
    log_proves p
    (record {
      turn = λ node valid. c.one_turn_splits_a_node.ensures p 0 node c.stage.ensures.sound valid;
      dies = λ node why. c.nothing_is_kept_below_a_dead_node.ensures p 0 node why c.stage.ensures.sound;
      decided = c.a_test_decides_what_is_kept.ensures p;
    })
    c.in_ok-run.run'.lines.items c.in_ok-run.run'.book.items c.in_ok-book.book.items c.in_ok-run.ensures
    c.in_ok-book.ensures.same c.in_ok-book.ensures.ascending (c.what_is_sorted_is_the_book.ensures.strict p)

pub returns-clause-steps : goal.returns-clause-steps
returns-clause-steps c = λ k d inside. (c.in_ok-run.ensures.form k d inside).steps
