use Rattle.std.proofs.Common.{refl}
use Rattle.cr_query.proofs.laws.items_are_counted.Goals as goal

pub returns : goal.returns
returns c = record { each = refl; none = refl; twice = refl }
