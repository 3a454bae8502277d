use Rattle.std.proofs.Common.{sym, subst}
use Rattle.std.specs.Prelude.{All}
use Rattle.cr_io.specs.Grown.{joined}
use Rattle.cr_model.specs.Callings.{HasSteps}
use Rattle.cr_model.specs.Checkpoints.{nodes_of_jobs}
use Rattle.cr_store.specs.Written.{lists, IsTextOfLeft}
use Rattle.cr_trail.proofs.Going.{without_found}
use Rattle.cr_trail.proofs.Ready.{touches_known, nodes_known, ready_after}
use Rattle.cr_trail.proofs.trail.after_turns.Goals as goal

pub run_on-requires-clause-goes_on : goal.run_on-requires-clause-goes_on
run_on-requires-clause-goes_on g c =
    without_found (g.R.Runner.searches c.args.runner.now) c.requires.goes_on.0 (lists c.args.now.left.jobs.items) c.requires.goes_on.2

pub checkpoint_pieces-requires-clause-touches : goal.checkpoint_pieces-requires-clause-touches
checkpoint_pieces-requires-clause-touches g c κs lives =
    let now = c.in_ok-left.field-0.left in
    subst (λ p. All (HasSteps p) now.found.items) (sym c.problem.ensures)
    (touches_known c.partitions_follow_one_another.ensures.begun c.partitions_follow_one_another.ensures.onward
    (g.R.Runner.searches c.args.runner.now) c.args.now.left.found.items c.requires.goes_on.0 (lists c.args.now.left.jobs.items) c.args.every
    c.requires.goes_on.1 c.requires.goes_on.2 now.found.items (lists now.jobs.items) c.in_ok-left.ensures)

pub checkpoint_pieces-requires-clause-nodes : goal.checkpoint_pieces-requires-clause-nodes
checkpoint_pieces-requires-clause-nodes g c κs lives =
    let now = c.in_ok-left.field-0.left in
    subst (λ jobs. All (HasSteps c.problem.result.now) (nodes_of_jobs (lists jobs))) (sym c.deref-2.ensures.value)
    (subst (λ p. All (HasSteps p) (nodes_of_jobs (lists now.jobs.items))) (sym c.problem.ensures)
    (nodes_known c.partitions_follow_one_another.ensures.begun c.partitions_follow_one_another.ensures.onward
    (g.R.Runner.searches c.args.runner.now) c.args.now.left.found.items c.requires.goes_on.0 (lists c.args.now.left.jobs.items) c.args.every
    c.requires.goes_on.1 c.requires.goes_on.2 now.found.items (lists now.jobs.items) c.in_ok-left.ensures))

pub returns : goal.returns
returns g c found same on =
    let p = g.R.Runner.searches c.args.runner.now in
    let bytes = c.args.problem_bytes.now in
    let now = c.in_ok-left.field-0.left in
    let text = joined c.in_ok-pieces.field-0.pieces.items in
    ready_after c.partitions_follow_one_another.ensures.begun c.partitions_follow_one_another.ensures.onward
    p c.args.now.left.found.items found (lists c.args.now.left.jobs.items) c.args.every same on now.found.items (lists now.jobs.items) c.in_ok-left.ensures
    c.each_touch_stands_once.ensures.parts c.partitions_follow_one_another.ensures.covers c.what_is_sorted_is_the_book.ensures.strict
    bytes text c.in_ok-pieces.field-0.spent.items
    (subst (λ q. IsTextOfLeft q bytes now.found.items (lists now.jobs.items) text) c.problem.ensures
    (subst (λ jobs. IsTextOfLeft c.problem.result.now bytes now.found.items (lists jobs) text) c.deref-2.ensures.value c.in_ok-pieces.ensures.text))
    c.in_ok-pieces.ensures.spent
