use Rattle.std.proofs.Common.{◌≡◌, drop, map}
use Rattle.cr_words.specs.Values.{is_among}
use Rattle.cr_words.proofs.table.is_among.Given as goal

abbrev pub invariant-loop-other : goal.invariant-loop-other
invariant-loop-other l = is_among (map (λ s. s.now) (drop l.other-index l.names)) l.name ≡ is_among (map (λ s. s.now) l.names) l.name
