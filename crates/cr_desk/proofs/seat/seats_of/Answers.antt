use Rattle.std.proofs.Common.{◌≡◌, map, ap, ◌∙◌, arith}
use Rattle.std.proofs.lemmas.List.Elements.{All-same, All-push}
use Rattle.cr_desk.proofs.Seats.{numbers_more}
use Rattle.cr_desk.proofs.seat.seats_of.Goals as goal

pub loop-worker-preserved : goal.loop-worker-preserved
loop-worker-preserved g c =
    let before = c.loop-worker.invariant in
    let push = c.in_ok-push.ensures.items in (
      omega arith,
      omega arith,
      omega (arith, c.in_ok-push.ensures.len),
      ap (map (λ s. s.worker)) push ∙ numbers_more (λ s. s.worker) c.loop-worker.seats.items _ c.loop-worker.worker before.3 (omega arith),
      All-same (λ s. s.share.parts ≡ 1) _ _ push (All-push (λ s. s.share.parts ≡ 1) c.loop-worker.seats.items _ before.4 c.split_off-share.ensures.parts),
      All-same (λ s. s.share.amount ≡ 0) _ _ push (All-push (λ s. s.share.amount ≡ 0) c.loop-worker.seats.items _ before.5 c.split_off-share.ensures.amount),
    )
