use Rattle.std.proofs.Common.{length, is_some, None, sym, ap, ◌∙◌, arith}
use Rattle.cr_board.specs.Choices.{is_holding}
use Rattle.cr_board.proofs.Reading.{read_at}
use Rattle.cr_board.proofs.Finding.{first_at, none_at}
use Rattle.cr_board.proofs.places.first_holding.Goals as goal

pub returns-then-is_some-clause-is : goal.returns-then-is_some-clause-is
returns-then-is_some-clause-is c = first_at (is_holding c.args.held.now) 0 (length c.args.held.now) c.loop-worker.worker
    (λ k low below. c.loop-worker.invariant k below) (omega arith) c.loop-worker-test.true
    (ap is_some (read_at c.args.held.now c.loop-worker.worker c.index-held-worker.result None c.loop-worker-test.true c.index-held-worker.is) ∙ sym c.is_some.ensures ∙ c.if-is_some.true)

pub returns-clause-is : goal.returns-clause-is
returns-clause-is c = none_at (is_holding c.args.held.now) 0 (length c.args.held.now) (λ k low below. c.loop-worker.invariant k (omega arith))
