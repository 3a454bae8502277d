use Rattle.std.proofs.Common.{length, subst, arith}
use Rattle.cr_model.specs.Checks.{TellsFirst}
use Rattle.cr_store.specs.Faults.{IsKeptAt}
use Rattle.cr_store.proofs.items.check_kept.Goals as goal

pub line_of-requires-clause-inside : goal.line_of-requires-clause-inside
line_of-requires-clause-inside c =
    let found = c.args.items.now.found.items in
    let first = subst (TellsFirst (IsKeptAt c.args.problem.now found) (length found)) c.in-Some.is c.requires.unkept in
    omega (arith, first.within, c.requires.outlined.as_many_touches)
