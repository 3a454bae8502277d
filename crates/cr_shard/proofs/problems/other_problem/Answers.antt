use Rattle.std.proofs.Common.{◌≡◌, ◌<◌, [], length, inl, inr, sym, ap, ◌∙◌, arith}
use Rattle.std.proofs.lemmas.Bool.{cases_lt}
use Rattle.std.proofs.lemmas.List.{get_or-map}
use Rattle.cr_shard.specs.JoinFaults.{bytes_at}
use Rattle.cr_shard.proofs.problems.other_problem.Goals as goal

pub loop-index-preserved : goal.loop-index-preserved
loop-index-preserved c =
    let shards = c.args.shards.now in
    let index = c.loop-index.index in
    let inside : index < length shards = omega (arith, c.loop-index-test.true) in
    let some : 0 < length shards = omega (arith, inside) in
    let here : c.index-shards-index.result.bytes ≡ bytes_at shards index =
    ap (λ x. x.bytes) c.index-shards-index.is ∙ sym (get_or-map (λ x. x.bytes) shards index c.index-shards-index.result [] inside) in
    let first : c.index-shards-0.result.bytes ≡ bytes_at shards 0 =
    ap (λ x. x.bytes) c.index-shards-0.is ∙ sym (get_or-map (λ x. x.bytes) shards 0 c.index-shards-0.result [] some) in
    let same : bytes_at shards index ≡ bytes_at shards 0 =
    sym here ∙ sym c.file_of-in-loop-index.ensures ∙ sym c.in_default.ensures.none ∙ c.file_of.ensures ∙ first in
    λ k below. elim (cases_lt k index) [
      | inl low ↦ c.loop-index.invariant k low
      | inr high ↦ let last : k ≡ index = omega arith in ap (bytes_at shards) last ∙ same
    ]
