use Rattle.std.proofs.Common.{◌≡◌, ◌<◌, ap, sym, ◌∙◌, subst, Err, Ok}
use Rattle.std.specs.Prelude.{length}
use Rattle.std.specs.List.Sorted.{IsPermutation}
use Rattle.std.proofs.lemmas.Bool.{false≢true}
use Rattle.std.proofs.lemmas.List.Sorted.{IsPermutation-refl}
use Rattle.cr_io.specs.Grown.{joined}
use Rattle.cr_model.specs.Checkpoints.{checkpoint_text}
use Rattle.cr_model.specs.Sound.{IsSound}
use Rattle.cr_store.specs.Written.{lists}
use Rattle.cr_trail.specs.Writing.{WritesBlock, WroteSoFar}
use Rattle.cr_trail.proofs.Ready.{has_bytes}
use Rattle.cr_trail.proofs.Written.{not_begun, nothing_written, refused_as, done, no_memory_as, further, falls}
use Rattle.cr_trail.proofs.trail.write_trail.Goals as goal

pub returns-in_err-ready-clause-ends : goal.returns-in_err-ready-clause-ends
returns-in_err-ready-clause-ends g c =
    nothing_written g.K.Sink.grew g.K.Sink.faults g.met.K.Sink.chains (g.R.Runner.searches c.args.runner.now) c.args.problem_bytes.now c.requires.file
    c.args.left.found.items (lists c.args.left.jobs.items) c.args.every c.args.sink.now
    (g.met.K.Sink.starts c.args.sink.now) c.from_residual.result c.from_residual.ensures.1

pub loop-now-init : goal.loop-now-init
loop-now-init g c =
    let p = g.R.Runner.searches c.args.runner.now in
    let found = c.args.left.found.items in
    let text = joined c.in_ok-ready.ready.pieces.items in
    let same = sym c.in_ok-ready.ensures.same in (
      found,
      record {
        same = subst (λ left. IsPermutation left.found.items found) same (IsPermutation-refl found);
        is = subst (λ left. text ≡ checkpoint_text p c.args.problem_bytes.now found (lists left.jobs.items)) same c.in_ok-ready.ensures.text;
      },
      subst (λ left. WroteSoFar g.K.Sink.grew g.K.Sink.faults c.args.sink.now c.args.sink.now p c.args.problem_bytes.now
          found (lists c.args.left.jobs.items) c.args.every found (lists left.jobs.items)) same
          (not_begun g.K.Sink.grew g.K.Sink.faults g.met.K.Sink.chains p c.args.problem_bytes.now c.requires.file
          found (lists c.args.left.jobs.items) c.args.every c.args.sink.now (g.met.K.Sink.starts c.args.sink.now) c.requires.goes_on),
    )

pub write_block-requires : goal.write_block-requires
write_block-requires g c =
    let (now, ready, so_far) = c.loop-now.invariant in
    subst (λ text. 0 < length text) (sym ready.is)
    (has_bytes (g.R.Runner.searches c.args.runner.now) c.args.problem_bytes.now now (lists c.loop-now.ready.now.left.jobs.items))

pub returns-in_err-write_block-clause-ends : goal.returns-in_err-write_block-clause-ends
returns-in_err-write_block-clause-ends g c =
    let (now, ready, so_far) = c.loop-now.invariant in
    refused_as g.K.Sink.grew g.K.Sink.faults g.met.K.Sink.chains (g.R.Runner.searches c.args.runner.now) c.args.problem_bytes.now c.requires.file
    c.args.left.found.items (lists c.args.left.jobs.items) c.args.every c.args.sink.now
    c.loop-now.sink now (lists c.loop-now.ready.now.left.jobs.items) so_far c.write_block.new.sink
    (joined c.loop-now.ready.pieces.items) _ c.from_residual-in_err-write_block.result ready.is
    c.in_err-write_block.ensures.writes c.from_residual-in_err-write_block.ensures.1

pub returns-then-is_done-clause-ends : goal.returns-then-is_done-clause-ends
returns-then-is_done-clause-ends g c =
    let (now, ready, so_far) = c.loop-now.invariant in
    done g.K.Sink.grew g.K.Sink.faults g.met.K.Sink.chains (g.R.Runner.searches c.args.runner.now) c.args.problem_bytes.now c.requires.file
    c.args.left.found.items (lists c.args.left.jobs.items) c.args.every c.args.sink.now
    c.loop-now.sink now (lists c.loop-now.ready.now.left.jobs.items) so_far c.write_block.new.sink
    (subst (λ text. WritesBlock g.K.Sink.grew g.K.Sink.faults c.loop-now.sink c.write_block.new.sink text (Ok tt)) ready.is c.in_ok-write_block.ensures.writes)
    (c.is_done.ensures.0 c.if-is_done.true)

pub after_turns-requires-clause-goes_on : goal.after_turns-requires-clause-goes_on
after_turns-requires-clause-goes_on g c κs lives =
    let (now, ready, so_far) = c.loop-now.invariant in
    (now, ready.same, so_far.under_way.goes_on)

pub returns-in_err-ready-2-clause-ends : goal.returns-in_err-ready-2-clause-ends
returns-in_err-ready-2-clause-ends g c =
    let (now, ready, so_far) = c.loop-now.invariant in
    no_memory_as g.K.Sink.grew g.K.Sink.faults g.met.K.Sink.chains (g.R.Runner.searches c.args.runner.now) c.args.problem_bytes.now c.requires.file
    c.args.left.found.items (lists c.args.left.jobs.items) c.args.every c.args.sink.now
    c.loop-now.sink now (lists c.loop-now.ready.now.left.jobs.items) so_far c.write_block.new.sink
    (subst (λ text. WritesBlock g.K.Sink.grew g.K.Sink.faults c.loop-now.sink c.write_block.new.sink text (Ok tt)) ready.is c.in_ok-write_block.ensures.writes)
    c.from_residual-in_err-ready-2.result c.from_residual-in_err-ready-2.ensures.1

pub loop-now-smaller : goal.loop-now-smaller
loop-now-smaller g c =
    let (now, ready, so_far) = c.loop-now.invariant in
    let next = c.in_ok-ready-2.ensures now ready.same so_far.under_way.goes_on in
    falls (g.R.Runner.searches c.args.runner.now) (subst IsSound c.problem.ensures c.stage.ensures.sound) c.sizes_are_sums.ensures.node c.sizes_are_sums.ensures.first c.sizes_are_sums.ensures.none
    now (lists c.loop-now.ready.now.left.jobs.items) c.args.every next.now (lists c.in_ok-ready-2.ready.now.left.jobs.items)
    c.requires.some so_far.under_way.goes_on (λ over. false≢true (sym c.if-is_done.false ∙ c.is_done.ensures.1 over)) next.went

pub loop-now-preserved : goal.loop-now-preserved
loop-now-preserved g c =
    let (now, ready, so_far) = c.loop-now.invariant in
    let next = c.in_ok-ready-2.ensures now ready.same so_far.under_way.goes_on in (
      next.now,
      next.ready,
      further g.K.Sink.grew g.K.Sink.faults g.met.K.Sink.chains (g.R.Runner.searches c.args.runner.now) c.args.problem_bytes.now c.requires.file
          c.args.left.found.items (lists c.args.left.jobs.items) c.args.every c.args.sink.now
          c.loop-now.sink now (lists c.loop-now.ready.now.left.jobs.items) so_far c.write_block.new.sink
          (subst (λ text. WritesBlock g.K.Sink.grew g.K.Sink.faults c.loop-now.sink c.write_block.new.sink text (Ok tt)) ready.is c.in_ok-write_block.ensures.writes)
          c.sizes_are_sums.ensures.none
          (λ over. false≢true (sym c.if-is_done.false ∙ c.is_done.ensures.1 over)) next.now (lists c.in_ok-ready-2.ready.now.left.jobs.items) next.went,
    )
