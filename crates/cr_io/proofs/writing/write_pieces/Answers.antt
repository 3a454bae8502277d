use Rattle.std.proofs.Common.{arith}
use Rattle.std.proofs.lemmas.Result.{MatchResult-from_err}
use Rattle.cr_io.proofs.Joined.{piece_joined, front_joined}
use Rattle.cr_io.proofs.writing.write_pieces.Goals as goal

pub loop-piece-preserved : goal.loop-piece-preserved
loop-piece-preserved g c = (
  piece_joined g.met.K.Sink.chains _ _ _ c.args.pieces.now c.loop-piece.piece-index c.piece-item.result c.loop-piece-test.true c.piece-item.is
      c.loop-piece.invariant.0 (rw c.deref.ensures.value at c.in_ok-write_whole.ensures.whole),
  omega (arith, c.in_ok-write_whole.ensures.same),
)

pub returns-in_err-write_whole-clause-front : goal.returns-in_err-write_whole-clause-front
returns-in_err-write_whole-clause-front g c = MatchResult-from_err _ _ _ c.from_residual.ensures.0
    (λ _. front_joined g.met.K.Sink.chains _ _ _ c.args.pieces.now c.loop-piece.piece-index c.piece-item.result c.loop-piece-test.true c.piece-item.is
    c.loop-piece.invariant.0 (rw c.deref.ensures.value at c.in_err-write_whole.ensures.front))
