-- The third check is the first that fails.
use Rattle.std.proofs.lemmas.Result.{err_from_is_err_and}
use Rattle.cr_store.specs.Reading.{outline_parts}
use Rattle.cr_store.proofs.FaultKinds.{third_fails}
use Rattle.cr_store.proofs.items.check_items.Goals as goal

pub returns-in_err-check_order : goal.returns-in_err-check_order
returns-in_err-check_order c =
    let e = err_from_is_err_and c.from_residual-in_err-check_order.result c.from_residual-in_err-check_order.ensures.1 in
    rw (e.1, e.2) (third_fails c.args.problem.now (outline_parts c.args.outline.now) c.args.items.now.found.items c.args.items.now.nodes.items c.in_err-check_order.field-0.0
    c.in_ok-check_lengths.ensures c.in_ok-check_kept.ensures c.in_err-check_order.ensures)
