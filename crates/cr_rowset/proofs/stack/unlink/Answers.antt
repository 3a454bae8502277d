-- The bucket of the key that goes has what it had before.
use Rattle.std.proofs.Common.{◌-◌, ◌<◌, ◌∙◌, length, get_or, refl, arith}
use Rattle.std.proofs.lemmas.List.{length-set}
use Rattle.cr_rowset.proofs.Linked.{one_less}
use Rattle.cr_rowset.proofs.stack.unlink.Goals as goal

pub loop-place-preserved : goal.loop-place-preserved
loop-place-preserved c =
    let kept = c.loop-place.invariant in
    let place = c.loop-place.place - 1 in
    let some = c.loop-place-test.true in
    let at = c.bucket_of in
    let counted : at.result < length c.loop-place.buckets = omega (arith, at.ensures.within, kept.counted, c.requires.buckets) in
    record {
      kept = one_less c.args.shift c.loop-place.buckets c.args.before.now c.args.keys.now c.loop-place.place place at.result (get_or c.args.before.now place 0) kept.kept (omega (arith, some)) at.ensures.is refl counted;
      counted = length-set c.loop-place.buckets at.result (get_or c.args.before.now place 0) ∙ kept.counted;
      low = omega (arith, some);
      high = omega (arith, kept.high);
    }
