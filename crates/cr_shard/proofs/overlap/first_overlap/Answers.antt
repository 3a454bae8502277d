use Rattle.std.proofs.Common.{List, subst, arith, append-nil}
use Rattle.cr_store.specs.Progress.{Progress}
use Rattle.cr_shard.specs.Reads.{all_items, NoneMeet}
use Rattle.cr_shard.proofs.Earliest.{one_more, chosen_apart, overlap_found}
use Rattle.cr_shard.proofs.Overlapping.{none_overlap}
use Rattle.cr_shard.proofs.overlap.first_overlap.Goals as goal

pub returns-then-branch : goal.returns-then-branch
returns-then-branch c =
    let p = c.args.problem.now in
    none_overlap p c.args.shards.now
    (subst (λ (l : List Progress). NoneMeet (all_items p l)) (append-nil c.args.shards.now) (c.in_ok-are_apart.ensures.0 c.if-branch.true))

pub least_overlapped-requires-clause-meets : goal.least_overlapped-requires-clause-meets
least_overlapped-requires-clause-meets c =
    let p = c.args.problem.now in
    λ none. c.in_ok-later.ensures.meets
    (subst (λ (l : List Progress). NoneMeet (all_items p l)) (one_more c.args.shards.now c.in_ok-later.later c.in_ok-later.ensures.inside) none)

pub least_overlapped-requires-clause-none : goal.least_overlapped-requires-clause-none
least_overlapped-requires-clause-none c = λ meets.
    meets (chosen_apart c.args.problem.now c.args.shards.now c.requires c.in_ok-later.later c.in_ok-later.ensures.inside 0 (omega arith)
    c.in_ok-later.ensures.apart (λ k d below. absurd (omega (arith, below))))

pub returns : goal.returns
returns c =
    overlap_found c.args.problem.now c.args.shards.now c.requires c.in_ok-earlier.earlier c.in_ok-later.later c.in_ok-later.ensures.inside
    c.in_ok-later.ensures.apart c.in_ok-earlier.ensures.below c.in_ok-earlier.ensures.apart c.in_ok-earlier.ensures.meets
