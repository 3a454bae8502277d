use Rattle.cr_model.proofs.Lacking.{if_none}
use Rattle.cr_audit.proofs.RawLines.{no_first, no_second}
use Rattle.cr_audit.proofs.reading.two_of.Goals as goal

pub returns-in_err-one-clause-none : goal.returns-in_err-one-clause-none
returns-in_err-one-clause-none c =
    if_none c.from_residual-in_err-one.result _
    (no_first c.args.numbers.now c.in_ok-first.first.now c.in_ok-first.second.now c.in_ok-first.ensures.some.0 c.in_ok-first.ensures.some.1 c.in_err-one.ensures.none)

pub returns-in_err-other-clause-none : goal.returns-in_err-other-clause-none
returns-in_err-other-clause-none c =
    if_none c.from_residual-in_err-other.result _
    (no_second c.args.numbers.now c.in_ok-first.first.now c.in_ok-first.second.now c.in_ok-first.ensures.some.0 c.in_ok-first.ensures.some.1 c.in_err-other.ensures.none)
