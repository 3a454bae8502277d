use Rattle.cr_top.proofs.ShardParts.{cut_off_shards}
use Rattle.cr_top.proofs.sharding.cut_written.Goals as goal

pub returns-in_err-write_pieces-clause-ends : goal.returns-in_err-write_pieces-clause-ends
returns-in_err-write_pieces-clause-ends g c =
    cut_off_shards _ _ c.in_ok-input.input.items _ c.in_ok-input.ensures.reads
    (record { front = rw c.deref.ensures.value at c.in_err-write_pieces.ensures.front; rose = c.in_err-write_pieces.ensures.fault })
    c.args.into
    c.in_ok-pieces.ensures
    c.from_residual-in_err-write_pieces.result c.from_residual-in_err-write_pieces.ensures.1
