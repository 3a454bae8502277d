use Rattle.std.proofs.Common.{sym, ap, ◌∙◌, subst}
use Rattle.cr_shard.specs.Hashes.{hash_of, hash_after}
use Rattle.cr_shard.specs.Ways.{AreHashed}
use Rattle.cr_shard.proofs.Hashing.{hashed_more}
use Rattle.cr_shard.proofs.way.Way.step_on.Goals as goal

pub invariant_of-self-2 : goal.invariant_of-self-2
invariant_of-self-2 c =
    let step = c.args.step in
    subst (AreHashed 0) (sym c.in_ok-push.ensures.items)
    (hashed_more 0 c.self.inside.fronts.items _ c.self.invariant
    (c.hash_after-hash.ensures ∙ ap (λ n. hash_after n step) (c.hash-hash.ensures ∙ ap hash_of (sym c.self.view_is))))
