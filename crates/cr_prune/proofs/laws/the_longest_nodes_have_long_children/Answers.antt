use Rattle.std.proofs.Common.{◌||◌, ap}
use Rattle.cr_model.specs.Dead.{is_self_false, is_far, is_turned_back}
use Rattle.cr_model.specs.Sizes.{child}
use Rattle.cr_query.specs.Meters.{is_hopeless_by_leads}
use Rattle.cr_prune.proofs.Limits.{child_long}
use Rattle.cr_prune.proofs.laws.the_longest_nodes_have_long_children.Goals as goal

pub returns-clause-long : goal.returns-clause-long
returns-clause-long c = child_long

pub returns-clause-dies : goal.returns-clause-dies
returns-clause-dies c p most node step sound valid many inside =
    let next = child node step in
    ap (λ b. b || (is_self_false p next || (is_hopeless_by_leads p next || (is_turned_back p next || is_far p most next)))) (child_long p node step sound valid many inside)
