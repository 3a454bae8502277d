use Rattle.cr_book.specs.Pieces.{pieces_joined}
use Rattle.cr_top.proofs.Stages.{cut_off}
use Rattle.cr_top.proofs.search.write_search.Goals as goal

pub returns-in_err-write_beside-clause-writes : goal.returns-in_err-write_beside-clause-writes
returns-in_err-write_beside-clause-writes g c = λ input found jobs start run.
    cut_off _ c.args.turns input (pieces_joined c.in_ok-outcome.outcome.pieces.items) c.in_ok-outcome.outcome.stopped
    (c.in_ok-outcome.ensures input found jobs start run)
    (record { front = c.in_err-write_beside.ensures.front; rose = c.in_err-write_beside.ensures.fault })
    c.from_residual-in_err-write_beside.result c.from_residual-in_err-write_beside.ensures.1

pub returns-clause-writes : goal.returns-clause-writes
returns-clause-writes g c = λ input found jobs start run. (
  pieces_joined c.in_ok-outcome.outcome.pieces.items,
  c.in_ok-outcome.ensures input found jobs start run,
  record { grew = c.in_ok-write_beside.ensures.whole; calm = c.in_ok-write_beside.ensures.same },
)
