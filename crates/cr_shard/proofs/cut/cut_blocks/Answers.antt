use Rattle.std.proofs.Common.{◌≡◌, ℕ, List, sym, ap, ◌∙◌, ◌++◌, subst, arith}
use Rattle.cr_model.specs.Checkpoints.{CanGoOn, checkpoint_text, nodes_of_jobs}
use Rattle.cr_store.specs.Blocks.{block, blocks}
use Rattle.cr_store.specs.Written.{lists}
use Rattle.cr_shard.specs.Deals.{dealt_found, dealt_nodes, as_jobs, shard_text, first_shards, nodes_seen}
use Rattle.cr_shard.proofs.Shards.{shard_goes_on}
use Rattle.cr_shard.proofs.Cutting.{one_shard_more, all_shards}
use Rattle.cr_shard.proofs.cut.cut_blocks.Goals as goal

pub shard_of-requires-clause-goes_on : goal.shard_of-requires-clause-goes_on
shard_of-requires-clause-goes_on c =
    let p = c.args.problem.now in
    let jobs = lists c.args.jobs.now in
    let shard = c.loop-shard.shard in
    let nodes : nodes_seen c.deref.result.now ≡ nodes_of_jobs jobs = ap nodes_seen c.deref.ensures.value ∙ c.in_ok-nodes.ensures in
    subst (λ (ns : List (List ℕ)). CanGoOn p (dealt_found shard c.args.found.now) (as_jobs (dealt_nodes c.args.into shard ns))) (sym nodes)
    (shard_goes_on p c.args.found.now jobs c.args.into shard c.requires.goes_on)

pub loop-shard-preserved : goal.loop-shard-preserved
loop-shard-preserved c =
    let p = c.args.problem.now in
    let bytes = c.args.problem_bytes.now in
    let found = c.args.found.now in
    let jobs = lists c.args.jobs.now in
    let shard = c.loop-shard.shard in
    let nodes : nodes_seen c.deref.result.now ≡ nodes_of_jobs jobs = ap nodes_seen c.deref.ensures.value ∙ c.in_ok-nodes.ensures in
    let body : c.deref-in-loop-shard.result.now ≡ shard_text p bytes found jobs c.args.into shard =
    c.deref-in-loop-shard.ensures.value ∙ c.in_ok-body.ensures
    ∙ ap (λ (ns : List (List ℕ)). checkpoint_text p bytes (dealt_found shard found) (as_jobs (dealt_nodes c.args.into shard ns))) nodes in
    c.in_ok-put_block.ensures.whole ∙ ap (λ t. c.loop-shard.text.items ++ block t) body
    ∙ one_shard_more p bytes found jobs c.args.into c.loop-shard.text.items shard c.loop-shard.invariant

pub returns : goal.returns
returns c =
    let p = c.args.problem.now in
    let bytes = c.args.problem_bytes.now in
    let jobs = lists c.args.jobs.now in
    let ended : c.loop-shard.shard ≡ c.args.into = omega (arith, c.loop-shard-test.false, c.loop-shard.auto.shard-end) in
    all_shards p bytes c.args.found.now jobs c.args.into c.loop-shard.text.items
    (c.loop-shard.invariant ∙ ap (λ n. blocks (first_shards p bytes c.args.found.now jobs c.args.into n)) ended)
