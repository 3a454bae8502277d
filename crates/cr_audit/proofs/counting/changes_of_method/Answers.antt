use Rattle.std.proofs.Common.{◌≡◌, ℕ, ◌+◌, ◌<◌, ◌≤◌, ◌^◌, length, take, arith, rules, ap, ◌∙◌}
use Rattle.std.proofs.lemmas.List.{length-take-le}
use Rattle.cr_model.specs.Queries.{changes_of_method}
use Rattle.cr_audit.proofs.Fronts.{front_of_take}
use Rattle.cr_audit.proofs.Taken.{com_few}
use Rattle.cr_audit.proofs.counting.changes_of_method.Goals as goal

pub overflow_add-number : goal.overflow_add-number
overflow_add-number c =
    let p = c.args.problem.now in
    let steps = c.args.steps.now in
    let more = take (c.loop-index.index + 1) steps in
    let so_far = c.loop-index.invariant in
    let before = ap (changes_of_method p) (front_of_take steps c.loop-index.index c.loop-index-test.true) in
    let fits : length steps < 2 ^ 64 = search rules in
    omega (arith, so_far, before, c.change_at_end-number.ensures, com_few p more, length-take-le (c.loop-index.index + 1) steps (omega (arith, c.loop-index-test.true)), c.loop-index-test.true, fits)
