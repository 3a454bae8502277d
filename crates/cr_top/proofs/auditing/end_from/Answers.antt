use Rattle.std.proofs.Common.{arith}
use Rattle.cr_shard.proofs.BodyReads.{read_all}
use Rattle.cr_top.proofs.AuditReads.{torn_behind, wrong_behind}
use Rattle.cr_top.proofs.auditing.end_from.Goals as goal

pub returns-in-End-clause-read : goal.returns-in-End-clause-read
returns-in-End-clause-read c = λ bodies read. read_all c.args.text.now c.args.at bodies read c.in-End.ensures

pub returns-in-Torn-clause-wrong : goal.returns-in-Torn-clause-wrong
returns-in-Torn-clause-wrong c = λ bodies read three. torn_behind c.args.text.now c.args.at bodies read (omega (arith, three)) c.in-Torn.ensures

pub returns-in-Form-clause-wrong : goal.returns-in-Form-clause-wrong
returns-in-Form-clause-wrong c = λ bodies read three.
    wrong_behind c.args.text.now c.args.at bodies read (omega (arith, three)) c.in-Form.place c.in-Form.ensures
