use Rattle.std.proofs.Common.{◌≡◌, ℕ, ◌+◌, ◌-◌, Some, length, sym, ap, ◌∙◌, arith}
use Rattle.cr_ahead.proofs.LeadMoves.{last_at_end}
use Rattle.cr_ahead.proofs.changed.last_method.Goals as goal

pub returns-clause-is : goal.returns-clause-is
returns-clause-is c =
    let steps = c.args.steps.now in
    let all : length steps - 1 + 1 ≡ length steps = omega arith in
    ap Some c.method_of.ensures.is ∙ sym (last_at_end c.args.problem.now steps (length steps - 1) 0 all)
