use Rattle.std.proofs.Common.{◌≡◌, take, inl, inr, sym, ap, ◌∙◌, subst, get_or, arith}
use Rattle.std.proofs.lemmas.Bool.{cases_lt}
use Rattle.std.proofs.lemmas.List.{take_more}
use Rattle.cr_shard.specs.Hashes.{hash_after, hash_of, IsMissing}
use Rattle.cr_shard.proofs.Hashing.{hash_more}
use Rattle.cr_shard.proofs.text_cut.is_clear.Goals as goal

pub loop-step-preserved : goal.loop-step-preserved
loop-step-preserved c =
    let hashes = c.args.known.now.hashes in
    let steps = c.args.steps.now in
    let i = c.loop-step.step-index in
    let step = get_or steps i 0 in (
      c.hash_after-hash.ensures ∙ ap (λ n. hash_after n step) c.loop-step.invariant.0 ∙ sym (hash_more 0 (take i steps) step)
          ∙ ap hash_of (sym (take_more steps i 0 c.loop-step-test.true)),
      λ n low. elim (cases_lt n i) [
        | inl less ↦ c.loop-step.invariant.1 n less
        | inr past ↦
            let here : i ≡ n = omega (arith, past, low) in
            subst (λ k. IsMissing hashes (hash_of (take k steps))) here (subst (IsMissing hashes) c.loop-step.invariant.0 (c.has.ensures c.if-has.false))
      ],
    )
