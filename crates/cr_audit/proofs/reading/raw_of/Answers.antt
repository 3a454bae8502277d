use Rattle.cr_model.proofs.Lacking.{if_none}
use Rattle.cr_audit.proofs.RawLines.{no_raw}
use Rattle.cr_audit.proofs.reading.raw_of.Goals as goal

pub returns-in_err-why-clause-none : goal.returns-in_err-why-clause-none
returns-in_err-why-clause-none c =
    if_none c.from_residual-in_err-why.result _
    (no_raw c.args.line.now c.in_ok-node.node.now c.in_ok-node.text.now c.in_ok-node.ensures.some.0 c.in_ok-node.ensures.some.1 c.in_err-why.ensures.none)
