use Rattle.std.proofs.Common.{List, ℕ, sym, ap, ◌∙◌, subst}
use Rattle.std.proofs.lemmas.Result.{IfOk-weaker}
use Rattle.cr_shard.specs.Hashes.{hash_of, IsClean}
use Rattle.cr_shard.proofs.Seen.{seen_more}
use Rattle.cr_shard.proofs.dealer.DealerNodeSink.take.Goals as goal

pub returns : goal.returns
returns c =
    let old = c.args.self.now.known in
    let node = c.args.node.now in
    let way = c.go_to.new.self in
    IfOk-weaker c.deal.result _ _
    (λ going deals ended nodes dealing.
    let went = c.in_ok-go_to.ensures c.if-not-branch.false dealing.clean in
    let comes = c.come_to.ensures c.if-not-come_to.false in
    record {
      seen = seen_more old c.come_to.new.self c.hash.result comes node (c.hash.ensures ∙ ap hash_of (went.0 ∙ c.steps.ensures.is)) nodes
          (subst (IsClean old.hashes) c.steps.ensures.is went.1) dealing.seen;
      clean = subst (λ (hashes : List ℕ). IsClean hashes way) (sym comes.hashes_are) (subst (IsClean old.hashes) (sym went.0) went.1);
      dealt = deals ended nodes dealing.dealt;
    })
    c.deal.ensures
