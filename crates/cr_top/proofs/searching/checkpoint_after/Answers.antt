use Rattle.std.proofs.Common.{◌∙◌}
use Rattle.cr_book.specs.Pieces.{pieces_joined}
use Rattle.cr_store.specs.Written.{lists}
use Rattle.cr_top.proofs.Stopping.{stop_text}
use Rattle.cr_top.proofs.searching.checkpoint_after.Goals as goal

pub remaining_in_order-requires : goal.remaining_in_order-requires
remaining_in_order-requires c = c.requires.came.way.nodes.kept

pub checkpoint_of-requires-clause-goes_on : goal.checkpoint_of-requires-clause-goes_on
checkpoint_of-requires-clause-goes_on c =
    let came = c.requires.came in
    c.in_ok-ordered.ensures.goes_on came.found came.jobs came.used came.way

pub returns : goal.returns
returns c = stop_text c.args.problem.now c.args.bytes.now c.args.left.found.items (lists c.args.left.jobs.items)
    c.in_ok-ordered.ordered.found.items (lists c.in_ok-ordered.ordered.jobs.items) (pieces_joined c.in_ok-pieces.pieces.items)
    c.in_ok-ordered.ensures.jobs c.in_ok-ordered.ensures.goes_on c.in_ok-ordered.ensures.covers
    (c.in_ok-pieces.ensures ∙ c.in_ok-text.ensures)
