use Rattle.std.proofs.Common.{◌≡◌, ◌+◌, ◌≤◌, suc, length, map, vec_len, vec_capacity, sym, ap, ◌∙◌, arith}
use Rattle.std.proofs.lemmas.List.Elements.{All-same, All-push}
use Rattle.std.proofs.lemmas.Simd.{map-map}
use Rattle.cr_run.specs.Keys.{LaneKey}
use Rattle.cr_run.specs.HintsKey.{hints_key, end_part, key_part}
use Rattle.cr_run.proofs.Returning.{keys_more, told_more, whole}
use Rattle.cr_run.proofs.crew.taken_apart.Goals as goal

pub loop-place-preserved : goal.loop-place-preserved
loop-place-preserved g c =
    let before = c.loop-place.invariant in
    let less : length c.loop-place.place-iterator.rest.items ≡ suc (length c.next.new.self.rest.items) = ap length c.in-Some.ensures.steps.0 in
    let seats = c.push_reserved.ensures in
    let ends = c.push_reserved-in-loop-place.ensures in
    let thieves = c.push_reserved-in-loop-place-2.ensures in
    let many : vec_len c.push_reserved.new.self + length c.next.new.self.rest.items ≡ vec_len c.args.places = omega (arith, before.4, seats.len) in
    let seats_room : vec_len c.push_reserved.new.self + length c.next.new.self.rest.items ≤ vec_capacity c.push_reserved.new.self = omega (arith, before.5, seats.len, seats.capacity) in
    let ends_room : vec_len c.push_reserved-in-loop-place.new.self + length c.next.new.self.rest.items ≤ vec_capacity c.push_reserved-in-loop-place.new.self = omega (arith, before.6, ends.len, ends.capacity) in
    let thieves_room : vec_len c.push_reserved-in-loop-place-2.new.self + length c.next.new.self.rest.items ≤ vec_capacity c.push_reserved-in-loop-place-2.new.self = omega (arith, before.7, thieves.len, thieves.capacity) in (
      keys_more end_part (λ p. key_part (hints_key p.hints)) c.loop-place.ends.items _ c.loop-place.yielded _ c.in-Some.place ends.items (ap key_part c.into_parts-end.ensures) before.0,
      keys_more (λ t. t.names) (λ p. (hints_key p.hints).thief) c.loop-place.thieves.items _ c.loop-place.yielded _ c.in-Some.place thieves.items (ap (λ (k : LaneKey). k.thief) c.into_parts-end.ensures) before.1,
      told_more c.loop-place.yielded c.next.new.self.rest.items c.loop-place.place-iterator.rest.items _ c.in-Some.place c.in-Some.ensures.steps.0 before.2,
      All-same (λ s. s.share.parts ≡ 1) _ _ seats.items (All-push (λ s. s.share.parts ≡ 1) c.loop-place.seats.items _ before.3 c.in-Some.place.one),
      many,
      seats_room,
      ends_room,
      thieves_room,
    )

pub returns-clause-ends : goal.returns-clause-ends
returns-clause-ends g c =
    let before = c.loop-place.invariant in
    let none : length c.loop-place.place-iterator.rest.items ≡ 0 = sym c.loop-place.place-iterator.rest.ok.0 ∙ c.in-None.ensures.steps.0 in
    let all = whole c.loop-place.yielded c.loop-place.place-iterator.rest.items _ none before.2 ∙ c.into_iter-place-iterator.ensures.into_iter_gives.0 in
    before.0 ∙ ap (map (λ p. key_part (hints_key p.hints))) all ∙ sym (map-map key_part (λ p. hints_key p.hints) c.args.places.items)

pub returns-clause-thieves : goal.returns-clause-thieves
returns-clause-thieves g c =
    let before = c.loop-place.invariant in
    let none : length c.loop-place.place-iterator.rest.items ≡ 0 = sym c.loop-place.place-iterator.rest.ok.0 ∙ c.in-None.ensures.steps.0 in
    let all = whole c.loop-place.yielded c.loop-place.place-iterator.rest.items _ none before.2 ∙ c.into_iter-place-iterator.ensures.into_iter_gives.0 in
    before.1 ∙ ap (map (λ p. (hints_key p.hints).thief)) all ∙ sym (map-map (λ (k : LaneKey). k.thief) (λ p. hints_key p.hints) c.args.places.items)
