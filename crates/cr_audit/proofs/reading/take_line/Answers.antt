use Rattle.cr_model.proofs.Lacking.{if_none}
use Rattle.cr_audit.proofs.RawLines.{no_line}
use Rattle.cr_audit.proofs.reading.take_line.Goals as goal

pub returns-in_err-raw-clause-none : goal.returns-in_err-raw-clause-none
returns-in_err-raw-clause-none c =
    if_none c.from_residual-in_err-raw.result _
    (no_line c.args.text.now c.in_ok-line.line.now c.in_ok-line.rest.now c.in_ok-line.ensures.some.0 c.in_ok-line.ensures.some.1 c.in_err-raw.ensures.none)
