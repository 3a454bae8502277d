use Rattle.std.proofs.Common.{arith}
use Rattle.std.proofs.lemmas.Result.{IfOk-weaker}
use Rattle.cr_book.proofs.Lines.{with_number}
use Rattle.cr_book.specs.Pieces.{pieces_joined}
use Rattle.cr_book.proofs.pieces.book_pieces.Goals as goal

pub returns-clause-text : goal.returns-clause-text
returns-clause-text g c =
    IfOk-weaker c.with_end.result _ _ (λ book is.
    with_number c.args.problem.now c.args.found.items (pieces_joined c.in_ok-lines.lines.pieces.items) (pieces_joined book.pieces.items) c.len-touches.result
    c.in_ok-lines.ensures.lines (omega (arith, c.len-touches.ensures)) is) c.with_end.ensures.text
