use Rattle.cr_explore.proofs.AnyOrder.{splits_again, above_again, independent_again}
use Rattle.cr_explore.proofs.laws.a_split_in_any_order.Goals as goal

pub returns : goal.returns
returns c = record { splits = splits_again; above = above_again; independent = independent_again }
