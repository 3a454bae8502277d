use Rattle.std.proofs.Common.{arith}
use Rattle.cr_store.proofs.OneTold.{accepts, refuses}
use Rattle.cr_store.proofs.checkpoint.read_checkpoint_by.Goals as goal

pub returns-clause-accepts : goal.returns-clause-accepts
returns-clause-accepts g c = λ made file.
    accepts c.args.bytes.now (omega arith) c.bytes_have_one_answer.ensures.one_checkpoint c.bytes_have_one_answer.ensures.one_fault c.bytes_have_one_answer.ensures.never_both
    c.read_whole_by.result c.read_whole_by.ensures made file

pub returns-clause-refuses : goal.returns-clause-refuses
returns-clause-refuses g c = λ why first.
    refuses c.args.bytes.now (omega arith) c.bytes_have_one_answer.ensures.one_checkpoint c.bytes_have_one_answer.ensures.one_fault c.bytes_have_one_answer.ensures.never_both
    c.read_whole_by.result c.read_whole_by.ensures why first
