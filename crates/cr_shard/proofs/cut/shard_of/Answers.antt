use Rattle.std.proofs.Common.{◌≡◌, List, ℕ, sym, ap, ap₂, ◌∙◌, subst}
use Rattle.cr_model.specs.Checkpoints.{CanGoOn, checkpoint_text}
use Rattle.cr_shard.specs.Deals.{dealt_found, dealt_nodes, as_jobs, nodes_seen, jobs_seen}
use Rattle.cr_shard.proofs.cut.shard_of.Goals as goal

pub write_parts-requires-clause-goes_on : goal.write_parts-requires-clause-goes_on
write_parts-requires-clause-goes_on c =
    let p = c.args.problem.now in
    let written = jobs_seen c.deref.result.now in
    let is : written ≡ as_jobs (dealt_nodes c.args.into c.args.shard (nodes_seen c.args.nodes.now)) =
    ap jobs_seen c.deref.ensures.value ∙ c.in_ok-jobs.ensures ∙ ap as_jobs c.in_ok-dealt.ensures in
    subst (λ (touches : List (List ℕ)). CanGoOn p touches written) (sym c.touches_of-touches.ensures)
    (subst (CanGoOn p (dealt_found c.args.shard c.args.found.now)) (sym is) c.requires.goes_on)

pub returns : goal.returns
returns c =
    let is : jobs_seen c.deref.result.now ≡ as_jobs (dealt_nodes c.args.into c.args.shard (nodes_seen c.args.nodes.now)) =
    ap jobs_seen c.deref.ensures.value ∙ c.in_ok-jobs.ensures ∙ ap as_jobs c.in_ok-dealt.ensures in
    c.in_ok-body.ensures.text ∙ ap₂ (checkpoint_text c.args.problem.now c.args.problem_bytes.now) c.touches_of-touches.ensures is
