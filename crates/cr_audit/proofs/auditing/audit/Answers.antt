use Rattle.cr_audit.specs.Touched.{callings}
use Rattle.cr_audit.proofs.Stopping.{proves, answered}
use Rattle.cr_audit.proofs.auditing.audit.Goals as goal

pub returns-in-Ok : goal.returns-in-Ok
returns-in-Ok c =
    let proved = c.in-Ok.ensures.proved in
    let touches = callings c.in-Ok.touches.keys in
    answered c.args.problem.now c.args.book.now c.args.log.now touches
    (proves c.args.problem.now c.args.log.now proved.lines touches proved.passed c.judge_book.ensures.ascending)
    c.judge_book.result c.judge_book.ensures.is

pub returns-in-Err : goal.returns-in-Err
returns-in-Err c = c.in-Err.ensures.fault c.args.book.now
