use Rattle.std.proofs.Common.{List, sym, subst}
use Rattle.std.specs.Prelude.{All}
use Rattle.cr_store.specs.Progress.{Progress}
use Rattle.cr_shard.specs.Reads.{IsHeld}
use Rattle.cr_shard.proofs.JoinChecks.{text_held}
use Rattle.cr_shard.proofs.join.join_whole.Goals as goal

pub join_read-requires-clause-held : goal.join_read-requires-clause-held
join_read-requires-clause-held c =
    subst (λ (shards : List Progress). All IsHeld shards) (sym c.deref_mut.ensures.value) (text_held c.args.text.now c.in_ok-shards.shards.items c.in_ok-shards.ensures)
