use Rattle.cr_model.specs.Checkpoints.{nodes_of_jobs}
use Rattle.cr_store.proofs.Leaving.{left_goes_on, left_covers}
use Rattle.cr_store.proofs.collecting.in_order.Goals as goal

pub returns-clause-goes_on : goal.returns-clause-goes_on
returns-clause-goes_on c = λ before begun left spent way.
    left_goes_on c.args.problem.now before begun c.args.found.items left spent way
    (c.each_touch_stands_once.ensures.parts c.args.problem.now before (nodes_of_jobs begun) c.args.found.items (nodes_of_jobs left) spent
    way.began.ascending way.began.independent way.nodes)
    c.in_ok-sorted.sorted.items c.in_ok-sorted.ensures.same c.what_is_sorted_is_the_book.ensures.strict c.in_ok-sorted.ensures.ascending

pub returns-clause-covers : goal.returns-clause-covers
returns-clause-covers c = λ before begun left spent way.
    left_covers c.partitions_follow_one_another.ensures.covers c.args.problem.now before begun c.args.found.items left spent
    c.in_ok-sorted.sorted.items c.in_ok-sorted.ensures.same way
