use Rattle.std.proofs.Common.{◌≡◌, ◌+◌, ◌-◌, ◌<◌, ◌≤◌, length, inl, inr, sym, ap, ap₂, ◌∙◌, arith}
use Rattle.std.proofs.lemmas.Bool.{false≢true, cases_lt}
use Rattle.std.proofs.lemmas.List.{length-map}
use Rattle.cr_node.specs.Overlaps.{item_at, item_of, items_of, begins}
use Rattle.cr_node.proofs.Least.{item_read}
use Rattle.cr_node.proofs.independence.none_begins_next.Goals as goal

pub returns-then-begins : goal.returns-then-begins
returns-then-begins c =
    let words = c.args.words.now in
    let here = c.loop-index.index in
    let some : 1 ≤ here = c.loop-index.invariant.0 in
    let inside : here < length words = omega (arith, c.loop-index-test.true) in
    let next : (here - 1) + 1 ≡ here = omega arith in
    let within : (here - 1) + 1 < length (items_of words) = omega (arith, length-map words item_of) in (
      λ h. absurd (false≢true h),
      λ none.
          sym (none (here - 1) within) ∙ ap (λ k. begins (item_at (items_of words) (here - 1)) (item_at (items_of words) k)) next
          ∙ ap₂ begins (item_read words (here - 1) _ (omega arith)) (item_read words here _ inside) ∙ sym c.begins.ensures ∙ c.if-begins.true,
    )

pub loop-index-preserved : goal.loop-index-preserved
loop-index-preserved c =
    let words = c.args.words.now in
    let here = c.loop-index.index in
    let some : 1 ≤ here = c.loop-index.invariant.0 in
    let inside : here < length words = omega (arith, c.loop-index-test.true) in (
      omega arith,
      λ k below.
          elim (cases_lt (k + 1) here) [
            | inl low ↦ c.loop-index.invariant.1 k low
            | inr high ↦
                let last : k ≡ here - 1 = omega arith in
                let next : k + 1 ≡ here = omega arith in
                ap₂ (λ i j. begins (item_at (items_of words) i) (item_at (items_of words) j)) last next
                ∙ ap₂ begins (item_read words (here - 1) _ (omega arith)) (item_read words here _ inside) ∙ sym c.begins.ensures ∙ c.if-begins.false
          ],
    )
