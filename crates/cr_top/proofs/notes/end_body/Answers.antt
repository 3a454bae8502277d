use Rattle.cr_top.proofs.Noting.{continued, stopped}
use Rattle.cr_top.proofs.notes.end_body.Goals as goal

pub returns : goal.returns
returns g c = continued g.met.N.Sink.chains _ _ _ _ _ _ _ c.in_ok-write_pieces.ensures c.end_check.ensures

pub returns-in_err-write_pieces : goal.returns-in_err-write_pieces
returns-in_err-write_pieces g c = stopped _ _ _ _ _ _ c.from_residual.ensures.0 c.in_err-write_pieces.ensures
