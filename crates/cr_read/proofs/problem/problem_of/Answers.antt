use Rattle.std.proofs.Common.{rules}
use Rattle.cr_read.specs.Reading.{Refused}
use Rattle.cr_read.proofs.LeadsRight.{has_spellings, refused_from}
use Rattle.cr_read.proofs.problem.problem_of.Goals as goal

pub check_calls-requires-clause-has_spellings : goal.check_calls-requires-clause-has_spellings
check_calls-requires-clause-has_spellings c = has_spellings c.args.file.now c.in_ok-stage.stage c.in_ok-spellings.spellings c.in_ok-spellings.ensures

pub returns-in_err-check_calls : goal.returns-in_err-check_calls
returns-in_err-check_calls c =
    let refused : Refused c.args.file.now c.in_err-check_calls.field-0.0 = refused_from c.args.file.now c.in_err-check_calls.field-0.0 (c.in_err-check_calls.ensures c.in_ok-stage.stage c.in_ok-spellings.ensures) in
    search rules
