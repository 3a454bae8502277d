use Rattle.cr_log.specs.FirstVerdicts.{is_missed}
use Rattle.cr_log.proofs.FirstItems.{first_by_count, first_by_method, first_by_pattern}
use Rattle.cr_log.proofs.items.first_missed.Goals as goal

pub returns-in-Some : goal.returns-in-Some
returns-in-Some c = first_by_count (is_missed c.args.problem.now c.args.node.now c.args.few) c.in-Some.index c.in-Some.ensures

pub returns-in-Some-first_method_count : goal.returns-in-Some-first_method_count
returns-in-Some-first_method_count c =
    first_by_method (is_missed c.args.problem.now c.args.node.now c.args.few) c.in_default.ensures
    c.in-Some-first_method_count.index c.in-Some-first_method_count.ensures

pub returns-in-Some-first_pattern : goal.returns-in-Some-first_pattern
returns-in-Some-first_pattern c =
    first_by_pattern (is_missed c.args.problem.now c.args.node.now c.args.few) c.in_default.ensures c.in_default-first_method_count.ensures
    c.in-Some-first_pattern.index c.in-Some-first_pattern.ensures
