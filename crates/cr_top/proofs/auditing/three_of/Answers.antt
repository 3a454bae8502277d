use Rattle.std.proofs.Common.{[], arith}
use Rattle.cr_shard.proofs.BodyReads.{read_nothing}
use Rattle.cr_top.proofs.AuditReads.{told_as}
use Rattle.cr_top.proofs.auditing.three_of.Goals as goal

pub returns : goal.returns
returns c = c.in_ok-end_from.ensures.read _ (c.in_ok-log.ensures.read _ (c.in_ok-book.ensures.read _
    (c.in_ok-bytes.ensures.read [] (read_nothing c.args.text.now))))

pub returns-in_err-book : goal.returns-in_err-book
returns-in_err-book c =
    let one = c.in_ok-bytes.ensures.read [] (read_nothing c.args.text.now) in
    told_as _ c.args.text.now c.in_err-book.field-0.0 (c.in_err-book.ensures.wrong _ one (omega arith))
    c.from_residual-in_err-book.result c.from_residual-in_err-book.ensures.1

pub returns-in_err-log : goal.returns-in_err-log
returns-in_err-log c =
    let one = c.in_ok-bytes.ensures.read [] (read_nothing c.args.text.now) in
    let two = c.in_ok-book.ensures.read _ one in
    told_as _ c.args.text.now c.in_err-log.field-0.0 (c.in_err-log.ensures.wrong _ two (omega arith))
    c.from_residual-in_err-log.result c.from_residual-in_err-log.ensures.1

pub returns-in_err-end_from : goal.returns-in_err-end_from
returns-in_err-end_from c =
    let one = c.in_ok-bytes.ensures.read [] (read_nothing c.args.text.now) in
    let two = c.in_ok-book.ensures.read _ one in
    let three = c.in_ok-log.ensures.read _ two in
    told_as _ c.args.text.now c.in_err-end_from.field-0.0 (c.in_err-end_from.ensures.wrong _ three (omega arith))
    c.from_residual-in_err-end_from.result c.from_residual-in_err-end_from.ensures.1
