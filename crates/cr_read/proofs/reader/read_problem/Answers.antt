use Rattle.cr_read.proofs.Exact.{accepts, refuses}
use Rattle.cr_read.proofs.reader.read_problem.Goals as goal

pub returns-clause-accepts : goal.returns-clause-accepts
returns-clause-accepts c =
    let law = c.bytes_have_one_answer.ensures in
    accepts c.args.bytes.now (law.one_problem c.args.bytes.now) (law.one_fault c.args.bytes.now) (law.never_both c.args.bytes.now) c.read_bytes.result c.read_bytes.ensures

pub returns-clause-refuses : goal.returns-clause-refuses
returns-clause-refuses c =
    let law = c.bytes_have_one_answer.ensures in
    refuses c.args.bytes.now (law.one_problem c.args.bytes.now) (law.one_fault c.args.bytes.now) (law.never_both c.args.bytes.now) c.read_bytes.result c.read_bytes.ensures
