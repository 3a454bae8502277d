-- Each step cuts the last job off.
use Rattle.std.proofs.Common.{◌≡◌, ◌-◌, sym, ap, ◌∙◌, subst, arith}
use Rattle.cr_store.specs.Progress.{AreJobs}
use Rattle.cr_store.specs.Written.{lists}
use Rattle.cr_store.proofs.Jobs.{AreLastJobs, none_cut, job_is_left, job_is_cut, all_cut, lists_turned}
use Rattle.cr_store.proofs.checkpoint.into_jobs.Goals as goal

pub overflow_sub-at : goal.overflow_sub-at
overflow_sub-at c =
    omega (arith, job_is_left c.args.sizes.now c.args.nodes.items c.loop-index.index c.loop-index.left.items c.loop-index.jobs.items c.loop-index-test.true c.loop-index.invariant)

pub loop-index-preserved : goal.loop-index-preserved
loop-index-preserved c =
    job_is_cut c.args.sizes.now c.args.nodes.items c.loop-index.index c.loop-index.left.items c.loop-index.jobs.items c.loop-index-test.true c.loop-index.invariant _
    c.nodes_from.new.nodes.items c.in_ok-nodes_from.field-0 c.push.new.self.items (omega arith) c.in_ok-nodes_from.ensures.left c.in_ok-nodes_from.ensures.taken
    c.in_ok-push.ensures.items

pub returns : goal.returns
returns c =
    let none : c.loop-index.index ≡ 0 = omega arith in
    let at_end = subst (λ i. AreLastJobs c.args.sizes.now c.args.nodes.items i c.loop-index.left.items (lists c.loop-index.jobs.items)) none c.loop-index.invariant in
    subst (AreJobs c.args.sizes.now c.args.nodes.items) (sym (ap lists c.reverse.ensures.items ∙ lists_turned c.loop-index.jobs.items))
    (all_cut c.args.sizes.now c.args.nodes.items c.loop-index.left.items (lists c.loop-index.jobs.items) at_end)
