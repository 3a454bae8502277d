use Rattle.cr_store.specs.Written.{lists}
use Rattle.cr_top.proofs.Steps.{steps_of_kept}
use Rattle.cr_top.proofs.Stopping.{whole_book}
use Rattle.cr_top.proofs.making.book_of.Goals as goal

pub sort_found-requires : goal.sort_found-requires
sort_found-requires g c = steps_of_kept _ _ c.in_ok-left.ensures.way.nodes.kept

pub returns : goal.returns
returns g c = whole_book c.what_was_found_whole_is_the_book.ensures c.each_touch_is_covered_once.ensures c.args.problem.now
    c.in_ok-left.left.found.items (lists c.in_ok-left.left.jobs.items) c.in_ok-left.ensures c.in_ok-book.book.items
    c.in_ok-book.ensures.same c.in_ok-book.ensures.ascending
