use Rattle.std.proofs.Common.{◌≡◌, ◌+◌, ◌-◌, ◌<◌, ◌≤◌, length, inl, inr, sym, ap, ap₂, ◌∙◌, arith}
use Rattle.std.proofs.lemmas.Bool.{false≢true, cases_lt}
use Rattle.std.proofs.lemmas.List.{length-map}
use Rattle.cr_node.specs.Overlaps.{item_at}
use Rattle.cr_shard.specs.Reads.{item_of, items_of, clashes}
use Rattle.cr_shard.proofs.Meeting.{item_read}
use Rattle.cr_shard.proofs.overlap.none_clashes_next.Goals as goal

pub returns-then-clashes : goal.returns-then-clashes
returns-then-clashes c =
    let words = c.args.words.now in
    let here = c.loop-index.index in
    let some : 1 ≤ here = c.loop-index.invariant.0 in
    let inside : here < length words = omega (arith, c.loop-index-test.true) in
    let next : (here - 1) + 1 ≡ here = omega arith in
    let within : (here - 1) + 1 < length (items_of words) = omega (arith, length-map words item_of) in (
      λ h. absurd (false≢true h),
      λ none.
          sym (none (here - 1) within) ∙ ap (λ k. clashes (item_at (items_of words) (here - 1)) (item_at (items_of words) k)) next
          ∙ ap₂ clashes (item_read words (here - 1) _ (omega arith)) (item_read words here _ inside) ∙ sym c.clashes.ensures ∙ c.if-clashes.true,
    )

pub loop-index-preserved : goal.loop-index-preserved
loop-index-preserved c =
    let words = c.args.words.now in
    let here = c.loop-index.index in
    let some : 1 ≤ here = c.loop-index.invariant.0 in
    let inside : here < length words = omega (arith, c.loop-index-test.true) in (
      omega arith,
      λ k below.
          elim (cases_lt (k + 1) here) [
            | inl low ↦ c.loop-index.invariant.1 k low
            | inr high ↦
                let last : k ≡ here - 1 = omega arith in
                let next : k + 1 ≡ here = omega arith in
                ap₂ (λ i j. clashes (item_at (items_of words) i) (item_at (items_of words) j)) last next
                ∙ ap₂ clashes (item_read words (here - 1) _ (omega arith)) (item_read words here _ inside) ∙ sym c.clashes.ensures ∙ c.if-clashes.false
          ],
    )
