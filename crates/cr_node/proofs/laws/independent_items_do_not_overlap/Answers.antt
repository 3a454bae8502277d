use Rattle.cr_node.proofs.Apart.{independent_where_apart}
use Rattle.cr_node.proofs.laws.independent_items_do_not_overlap.Goals as goal

pub returns : goal.returns
returns c = independent_where_apart
