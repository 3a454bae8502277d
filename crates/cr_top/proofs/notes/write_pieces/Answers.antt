use Rattle.cr_top.proofs.Noting.{pieces_continued, pieces_stopped}
use Rattle.cr_top.proofs.notes.write_pieces.Goals as goal

pub loop-piece-preserved : goal.loop-piece-preserved
loop-piece-preserved g c =
    pieces_continued g.met.N.Sink.chains _ _ _ c.args.pieces.now c.loop-piece.piece-index _ _
    c.loop-piece-test.true c.loop-piece.invariant c.in_ok-write_piece.ensures

pub returns-in_err-write_piece : goal.returns-in_err-write_piece
returns-in_err-write_piece g c =
    pieces_stopped g.met.N.Sink.chains _ _ _ c.args.pieces.now c.loop-piece.piece-index _ _ _
    c.loop-piece-test.true c.loop-piece.invariant c.from_residual.ensures.0 c.in_err-write_piece.ensures
