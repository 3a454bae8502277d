use Rattle.std.proofs.Common.{◌≡◌, drop, map}
use Rattle.cr_model.specs.Keys.{is_among}
use Rattle.cr_read.proofs.keys.is_of_top.Given as goal

abbrev pub invariant-loop-part : goal.invariant-loop-part
invariant-loop-part l = is_among (map (λ part. part.name.now) (drop l.part-index l.parts)) l.name ≡ is_among (map (λ part. part.name.now) l.parts) l.name
