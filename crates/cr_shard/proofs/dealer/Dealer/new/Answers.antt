use Rattle.std.proofs.Common.{subst, sym, arith}
use Rattle.cr_shard.specs.Hashes.{IsClean}
use Rattle.cr_shard.proofs.Seen.{none_seen}
use Rattle.cr_shard.proofs.dealer.Dealer.new.Goals as goal

pub returns : goal.returns
returns c = λ p. record {
  seen = none_seen c.args.known.hashes c.args.known.seen;
  clean = subst (IsClean c.args.known.hashes) (sym c.new-2.ensures) (λ n inside. absurd (omega (arith, inside)));
  dealt = c.in_ok-shards.ensures p;
}
