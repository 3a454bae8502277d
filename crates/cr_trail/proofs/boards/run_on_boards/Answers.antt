use Rattle.std.proofs.Common.{◌≡◌, ◌⊎◌, ◌++◌, [], Some, sym, ◌∙◌, subst}
use Rattle.std.proofs.lemmas.Bool.{false≢true}
use Rattle.cr_model.specs.Sound.{IsSound}
use Rattle.cr_store.specs.Written.{lists}
use Rattle.cr_trail.specs.Runs.{BoardRan}
use Rattle.cr_trail.proofs.Following.{way_begun, way_on, way_ends}
use Rattle.cr_trail.proofs.Going.{can_open, shrinks}
use Rattle.cr_trail.proofs.boards.run_on_boards.Goals as goal

pub run_board-requires-clause-goes_on : goal.run_board-requires-clause-goes_on
run_board-requires-clause-goes_on g c =
    let way = c.loop-alloc.invariant.way in
    can_open (g.R.Runner.searches c.args.runner.now) [] (lists c.args.before.left.jobs.items) c.loop-alloc.invariant.more (lists c.loop-alloc.jobs.items) way.used way.way

pub loop-alloc-init : goal.loop-alloc-init
loop-alloc-init g c = way_begun c.partitions_follow_one_another.ensures.begun (g.R.Runner.searches c.args.runner.now) c.args.before.left.found.items
    (lists c.args.before.left.jobs.items) c.args.turns c.requires.goes_on

pub loop-alloc-smaller : goal.loop-alloc-smaller
loop-alloc-smaller g c = shrinks (g.R.Runner.searches c.args.runner.now) (subst IsSound c.problem.ensures c.stage.ensures.sound)
    c.sizes_are_sums.ensures.node c.sizes_are_sums.ensures.first c.sizes_are_sums.ensures.none
    (lists c.loop-alloc.jobs.items) (lists c.in_ok-ran.ran.jobs.items) c.in_ok-ran.ran.found.items
    c.loop-alloc.allowed c.args.most c.in_ok-ran.ran.used c.requires.some c.loop-alloc.invariant.way.way.filled
    (λ over. false≢true (sym c.loop-alloc-test.true
    ∙ c.is_over.ensures.1 (subst (λ js. (lists js ≡ []) ⊎ (c.loop-alloc.allowed ≡ Some 0)) (sym c.deref.ensures.value) over)))
    (subst (λ most. BoardRan (g.R.Runner.searches c.args.runner.now) (lists c.loop-alloc.jobs.items) most
    c.in_ok-ran.ran.found.items (lists c.in_ok-ran.ran.jobs.items) c.in_ok-ran.ran.used) c.granted.ensures c.in_ok-ran.ensures)

pub loop-alloc-preserved : goal.loop-alloc-preserved
loop-alloc-preserved g c = way_on c.partitions_follow_one_another.ensures.onward (g.R.Runner.searches c.args.runner.now)
    c.args.before.left.found.items (lists c.args.before.left.jobs.items) c.args.turns
    c.loop-alloc.found.items c.in_ok-ran.ran.found.items _ (lists c.loop-alloc.jobs.items) (lists c.in_ok-ran.ran.jobs.items)
    c.loop-alloc.allowed c.without-allowed.result c.args.most c.in_ok-ran.ran.used c.loop-alloc.invariant
    (subst (λ most. BoardRan (g.R.Runner.searches c.args.runner.now) (lists c.loop-alloc.jobs.items) most
    c.in_ok-ran.ran.found.items (lists c.in_ok-ran.ran.jobs.items) c.in_ok-ran.ran.used) c.granted.ensures c.in_ok-ran.ensures)
    c.in_ok-put_behind.ensures c.without-allowed.ensures

pub returns : goal.returns
returns g c = way_ends (g.R.Runner.searches c.args.runner.now) c.args.before.left.found.items (lists c.args.before.left.jobs.items) c.args.turns
    c.loop-alloc.found.items (lists c.loop-alloc.jobs.items) c.loop-alloc.allowed c.loop-alloc.invariant
    (subst (λ js. (lists js ≡ []) ⊎ (c.loop-alloc.allowed ≡ Some 0)) c.deref.ensures.value (c.is_over.ensures.0 c.loop-alloc-test.false))
