use Rattle.std.proofs.Common.{arith}
use Rattle.cr_store.proofs.OneTold.{accepts, refuses}
use Rattle.cr_store.proofs.checkpoint.read_checkpoint.Goals as goal

pub returns-clause-accepts : goal.returns-clause-accepts
returns-clause-accepts c = λ made file.
    accepts c.args.bytes.now (omega arith) c.bytes_have_one_answer.ensures.one_checkpoint c.bytes_have_one_answer.ensures.one_fault c.bytes_have_one_answer.ensures.never_both
    c.read_whole.result c.read_whole.ensures made file

pub returns-clause-refuses : goal.returns-clause-refuses
returns-clause-refuses c = λ why first.
    refuses c.args.bytes.now (omega arith) c.bytes_have_one_answer.ensures.one_checkpoint c.bytes_have_one_answer.ensures.one_fault c.bytes_have_one_answer.ensures.never_both
    c.read_whole.result c.read_whole.ensures why first
