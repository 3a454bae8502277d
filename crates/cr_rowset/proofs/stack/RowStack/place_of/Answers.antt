-- The look-up begins at the mark of the key's bucket; where it finds nothing, the key is none of those held.
use Rattle.std.proofs.Common.{ℕ, ◌<◌, ◌∙◌, List, length, Contains, subst, arith}
use Rattle.std.proofs.lemmas.List.{get_or_default}
use Rattle.cr_rowset.specs.Stacks.{StackParts}
use Rattle.cr_rowset.proofs.Linked.{begins}
use Rattle.cr_rowset.proofs.Held.{IsAway, nowhere}
use Rattle.cr_rowset.proofs.stack.RowStack.place_of.Goals as goal

pub place_of-requires-clause-chain : goal.place_of-requires-clause-chain
place_of-requires-clause-chain c =
    let kept = c.self.invariant in
    let at = c.bucket_of in
    let inside : at.result < length c.self.inside.buckets.items = omega (arith, at.ensures.within, kept.counted) in
    let read = c.index-last.ensures ∙ get_or_default c.self.inside.buckets.items at.result c.index-last.result.now 0 inside in
    rw (c.deref.ensures.value, c.deref-2.ensures.value)
    (begins c.self.inside.shift c.self.inside.buckets.items c.self.inside.before.items c.self.inside.keys.items c.self.inside.len c.index-last.result.now c.key_of-key.result
    at.result kept.chained inside at.ensures.is read)

pub returns-clause-none : goal.returns-clause-none
returns-clause-none c nothing =
    let kept = c.self.invariant in
    let key = c.key_of-key in
    let away = subst (λ (keys : List ℕ). IsAway keys c.self.inside.len key.result) c.deref.ensures.value (c.place_of.ensures.none nothing) in
    subst (λ (s : StackParts). Contains s.rows c.args.row.now → ⊥) c.self.view_is
    (rw key.ensures.row at (nowhere c.self.inside.keys.items c.self.inside.len key.result kept.within kept.held key.ensures.is_key away))
