use Rattle.std.proofs.Common.{List, ℕ, subst}
use Rattle.cr_store.specs.Handing.{HandsJobs}
use Rattle.cr_store.proofs.HandedNodes.{all_handed}
use Rattle.cr_store.proofs.handing.each_node.Goals as goal

pub returns : goal.returns
returns g c = λ ended.
    let p = c.args.problem.now in
    let rest = c.hand_jobs.new.lines.rest.now in
    let last = c.hand_jobs.new.lines.last in
    let before = g.S.NodeSink.took c.args.sink.now p in
    let after = g.S.NodeSink.took c.hand_jobs.new.sink p in
    let done = subst (λ (root : List ℕ). HandsJobs p c.in-Some.rest.now root rest last before after c.in-Some.jobs) c.root-last.ensures (c.in_ok-hand_jobs.ensures c.if-not-branch.false) in
    all_handed p c.args.text.now c.in-Some.rest.now rest last before after c.in-Some.jobs c.in-Some.ensures.some.1 done (c.is_end.ensures.0 ended)
