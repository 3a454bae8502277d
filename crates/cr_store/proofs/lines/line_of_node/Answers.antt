-- The node stands in this job, or in the jobs after it.
use Rattle.std.proofs.Common.{get_or, arith}
use Rattle.cr_store.specs.Lines.{node_numbers}
use Rattle.cr_store.proofs.LineNumbers.{job_fits, told_here, told_later}
use Rattle.cr_store.proofs.lines.line_of_node.Goals as goal

pub overflow_add-result : goal.overflow_add-result
overflow_add-result c =
    omega (
      arith,
      job_fits c.args.sizes.now c.loop-index.index c.loop-index.line c.loop-index.left
          (get_or (node_numbers c.args.first c.args.sizes.now) c.args.node 0) c.loop-index-test.true c.loop-index.invariant,
    )

pub overflow_add-result-then-left-size : goal.overflow_add-result-then-left-size
overflow_add-result-then-left-size c =
    omega (
      arith,
      job_fits c.args.sizes.now c.loop-index.index c.loop-index.line c.loop-index.left
          (get_or (node_numbers c.args.first c.args.sizes.now) c.args.node 0) c.loop-index-test.true c.loop-index.invariant,
    )

pub returns-then-left-size : goal.returns-then-left-size
returns-then-left-size c =
    told_here c.args.sizes.now c.loop-index.index c.loop-index.line c.loop-index.left
    (get_or (node_numbers c.args.first c.args.sizes.now) c.args.node 0) c.loop-index-test.true c.loop-index.invariant (omega arith)

pub overflow_add-line : goal.overflow_add-line
overflow_add-line c =
    omega (
      arith,
      job_fits c.args.sizes.now c.loop-index.index c.loop-index.line c.loop-index.left
          (get_or (node_numbers c.args.first c.args.sizes.now) c.args.node 0) c.loop-index-test.true c.loop-index.invariant,
    )

pub overflow_add-line-in-loop-index : goal.overflow_add-line-in-loop-index
overflow_add-line-in-loop-index c =
    omega (
      arith,
      job_fits c.args.sizes.now c.loop-index.index c.loop-index.line c.loop-index.left
          (get_or (node_numbers c.args.first c.args.sizes.now) c.args.node 0) c.loop-index-test.true c.loop-index.invariant,
    )

pub loop-index-preserved : goal.loop-index-preserved
loop-index-preserved c =
    told_later c.args.sizes.now c.loop-index.index c.loop-index.line c.loop-index.left
    (get_or (node_numbers c.args.first c.args.sizes.now) c.args.node 0) c.loop-index-test.true c.loop-index.invariant (omega arith)
    _ _ (omega arith) (omega arith)
