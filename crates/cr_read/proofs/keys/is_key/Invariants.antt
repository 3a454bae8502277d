use Rattle.std.proofs.Common.{◌≡◌, drop, map}
use Rattle.cr_model.specs.Keys.{is_among}
use Rattle.cr_read.proofs.keys.is_key.Given as goal

abbrev pub invariant-loop-key : goal.invariant-loop-key
invariant-loop-key l = is_among (map (λ key. key.name.now) (drop l.key-index l.keys)) l.name ≡ is_among (map (λ key. key.name.now) l.keys) l.name
