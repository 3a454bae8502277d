-- The look-up begins at the mark of the key's bucket; where it finds nothing, the key is none of those held.
use Rattle.std.proofs.Common.{◌≡◌, ℕ, ◌<◌, ◌∙◌, List, length, refl, subst, arith}
use Rattle.std.proofs.lemmas.List.{get_or_default}
use Rattle.cr_rowset.proofs.Linked.{begins}
use Rattle.cr_rowset.proofs.Held.{IsAway, full, fresh, kept_more}
use Rattle.cr_rowset.proofs.stack.RowStack.push.Goals as goal

pub place_of-requires-clause-chain : goal.place_of-requires-clause-chain
place_of-requires-clause-chain c =
    let kept = c.self.invariant in
    let at = c.bucket_of-bucket in
    let inside : at.result < length c.self.inside.buckets.items = omega (arith, at.ensures.within, kept.counted) in
    let read = c.index-last.ensures ∙ get_or_default c.self.inside.buckets.items at.result c.index-last.result.now 0 inside in
    rw (c.deref.ensures.value, c.deref-2.ensures.value)
    (begins c.self.inside.shift c.self.inside.buckets.items c.self.inside.before.items c.self.inside.keys.items c.self.inside.len c.index-last.result.now c.key_of-key.result
    at.result kept.chained inside at.ensures.is read)

pub returns-then-len : goal.returns-then-len
returns-then-len c =
    let key = c.key_of-key in
    let away = subst (λ (keys : List ℕ). IsAway keys c.self.inside.len key.result) c.deref.ensures.value (c.in_default.ensures.none refl) in
    let all : c.self.inside.len ≡ length c.self.inside.keys.items = omega (arith, c.if-len.true, c.len.ensures) in
    full c.args.self.now c.self.inside.keys.items c.self.inside.len key.result c.args.row c.self.view_is key.ensures.row all c.self.invariant.held key.ensures.is_key away

pub invariant_of-self : goal.invariant_of-self
invariant_of-self c =
    let kept = c.self.invariant in
    let at = c.bucket_of-bucket in
    let key = c.key_of-key in
    let away = subst (λ (keys : List ℕ). IsAway keys c.self.inside.len key.result) c.deref.ensures.value (c.in_default.ensures.none refl) in
    let inside : at.result < length c.self.inside.buckets.items = omega (arith, at.ensures.within, kept.counted) in
    let read = c.index-last.ensures ∙ get_or_default c.self.inside.buckets.items at.result c.index-last.result.now 0 inside in
    let room : c.self.inside.len < length c.self.inside.keys.items = omega (arith, kept.within, c.if-len.false, c.len.ensures) in
    kept_more c.self.inside.shift c.self.inside.buckets.items c.self.inside.before.items c.self.inside.keys.items c.self.inside.len _ at.result _ _ key.result
    kept (omega arith) room at.ensures.is inside (omega (arith, read)) (omega arith) key.ensures.is_key away

pub returns : goal.returns
returns c =
    let kept = c.self.invariant in
    let key = c.key_of-key in
    let away = subst (λ (keys : List ℕ). IsAway keys c.self.inside.len key.result) c.deref.ensures.value (c.in_default.ensures.none refl) in
    let room : c.self.inside.len < length c.self.inside.keys.items = omega (arith, kept.within, c.if-len.false, c.len.ensures) in
    fresh c.args.self.now c.self.inside.keys.items c.self.inside.len _ key.result c.args.row c.self.view_is key.ensures.row (omega arith) room kept.held key.ensures.is_key away
