use Rattle.cr_book.specs.Pieces.{pieces_joined}
use Rattle.cr_top.proofs.Stopping.{reached}
use Rattle.cr_top.proofs.searching.outcome_of.Goals as goal

pub returns : goal.returns
returns g c = λ input found jobs start run. reached input c.args.bytes.now c.args.problem.now found jobs c.args.turns
    c.args.went.left.found.items _ start run c.what_was_found_whole_is_the_book.ensures c.each_touch_is_covered_once.ensures c.sizes_are_sums.ensures.none
    (pieces_joined c.in_ok-made.made.pieces.items) c.stopped_after-stopped.result c.stopped_after-stopped.ensures c.in_ok-made.ensures
