use Rattle.std.proofs.Common.{◌≡◌, ◌+◌, suc, length, vec_len, Some, refl, ap, arith}
use Rattle.std.proofs.lemmas.List.Elements.{All-pop}
use Rattle.cr_run.specs.HintsKey.{hints_key}
use Rattle.cr_run.proofs.Returning.{keys_more, told_more}
use Rattle.cr_run.proofs.crew.hinted.Goals as goal

pub invariant_of-push : goal.invariant_of-push
invariant_of-push g c = record {
  one = (All-pop (λ s. s.share.parts ≡ 1) c.loop-own.seats.items c.pop.new.self.items (Some c.in-Some-pop.seat) c.in-Some-pop.ensures.items c.loop-own.invariant.4).1;
}

pub loop-own-preserved : goal.loop-own-preserved
loop-own-preserved g c =
    let before = c.loop-own.invariant in
    let less : length c.loop-own.own-iterator.rest.items ≡ suc (length c.next.new.self.rest.items) = ap length c.in-Some.ensures.steps.0 in
    let left : vec_len c.pop.new.self ≡ length c.next.new.self.rest.items = omega (arith, before.2, c.in-Some-pop.ensures.len) in
    let many : vec_len c.push.new.self + length c.next.new.self.rest.items ≡ vec_len c.args.seats = omega (arith, before.3, c.in_ok-push-in-Some-pop.ensures.len) in (
      keys_more (λ p. hints_key p.hints) hints_key c.loop-own.places.items c.push.new.self.items c.loop-own.yielded _ c.in-Some.own c.in_ok-push-in-Some-pop.ensures.items refl before.0,
      told_more c.loop-own.yielded c.next.new.self.rest.items c.loop-own.own-iterator.rest.items _ c.in-Some.own c.in-Some.ensures.steps.0 before.1,
      left,
      many,
      (All-pop (λ s. s.share.parts ≡ 1) c.loop-own.seats.items c.pop.new.self.items (Some c.in-Some-pop.seat) c.in-Some-pop.ensures.items before.4).0,
    )
