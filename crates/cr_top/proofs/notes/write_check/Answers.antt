use Rattle.cr_top.proofs.Noting.{continued, stopped}
use Rattle.cr_top.proofs.notes.write_check.Goals as goal

pub returns : goal.returns
returns g c = continued g.met.N.Sink.chains _ _ _ _ _ _ _ c.in_ok-write_text.ensures c.end_check.ensures

pub returns-in_err-write_text : goal.returns-in_err-write_text
returns-in_err-write_text g c = stopped _ _ _ _ _ _ c.from_residual.ensures.0 c.in_err-write_text.ensures
