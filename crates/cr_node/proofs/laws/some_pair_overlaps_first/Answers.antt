use Rattle.cr_node.specs.Overlaps.{items}
use Rattle.cr_node.proofs.Apart.{independent_where_apart}
use Rattle.cr_node.proofs.Found.{some_pair}
use Rattle.cr_node.proofs.laws.some_pair_overlaps_first.Goals as goal

pub returns : goal.returns
returns c = λ p found nodes not. some_pair (items p found nodes) (λ apart. not ((independent_where_apart p found nodes).1 apart))
