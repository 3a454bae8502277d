use Rattle.std.proofs.Common.{arith}
use Rattle.cr_log.proofs.Small.{node_is_short}
use Rattle.cr_log.proofs.items.misses_com.Goals as goal

pub in_all_parts-requires : goal.in_all_parts-requires
in_all_parts-requires c =
    let few = node_is_short c.args.problem.now c.args.node.now c.requires.at.sound c.requires.at.valid in
    record { small = omega (arith, few, c.changes_of_method-number.ensures.few, c.leads_left.ensures.few) }

pub in_all_parts-requires-else-few : goal.in_all_parts-requires-else-few
in_all_parts-requires-else-few c =
    let few = node_is_short c.args.problem.now c.args.node.now c.requires.at.sound c.requires.at.valid in
    record { small = omega (arith, few, c.changes_of_method-number.ensures.few) }
