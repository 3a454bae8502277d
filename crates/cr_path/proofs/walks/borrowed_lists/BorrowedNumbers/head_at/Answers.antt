use Rattle.std.proofs.Common.{sym, subst}
use Rattle.cr_path.specs.Numbers.{NumberParts, IsBase}
use Rattle.cr_path.proofs.walks.borrowed_lists.BorrowedNumbers.head_at.Goals as goal

pub returns : goal.returns
returns c row base = c.head_at.ensures row (subst (λ (t : NumberParts). IsBase t row c.args.base) (sym c.self.view_is) base)
