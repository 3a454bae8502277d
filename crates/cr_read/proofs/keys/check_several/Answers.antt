use Rattle.std.proofs.Common.{ℕ, List, subst}
use Rattle.cr_read.specs.FirstKeys.{Checks}
use Rattle.cr_read.proofs.Arrays.{items_checked}
use Rattle.cr_read.proofs.keys.check_several.Goals as goal

pub returns : goal.returns
returns c = subst (λ (paths : List (List ℕ)). Checks paths c.check_items.result)
    (items_checked c.args.part.now.name.now c.args.least c.args.most _ _ _ _ c.are_tables.result c.in-Some.ensures c.in-Some-items_of.ensures c.in_ok-unless.ensures c.are_tables.ensures)
    c.check_items.ensures
