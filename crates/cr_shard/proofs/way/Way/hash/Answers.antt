use Rattle.std.proofs.Common.{◌-◌, length, sym, ap, ◌∙◌}
use Rattle.std.specs.List.{slice_get}
use Rattle.cr_shard.specs.Hashes.{hash_of}
use Rattle.cr_shard.proofs.Hashing.{hash_at_end}
use Rattle.cr_shard.proofs.way.Way.hash.Goals as goal

pub returns-in-Some : goal.returns-in-Some
returns-in-Some c =
    hash_at_end c.self.inside.fronts.items c.in-Some.front.now c.self.invariant (ap (λ l. slice_get l (length l - 1)) (sym c.deref.ensures.value) ∙ sym c.in-Some.ensures.value)
    ∙ ap hash_of c.self.view_is
