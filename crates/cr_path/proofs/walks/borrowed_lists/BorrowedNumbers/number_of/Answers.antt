use Rattle.std.proofs.Common.{◌≡◌, ◌<◌, [], length, get_or, sym, subst}
use Rattle.cr_path.specs.Numbers.{NumberParts, IsBase}
use Rattle.cr_path.proofs.walks.borrowed_lists.BorrowedNumbers.number_of.Goals as goal

pub returns : goal.returns
returns c row base =
    subst (λ (t : NumberParts). (c.number_of.result < length t.heads) × (get_or t.heads c.number_of.result [] ≡ row)) c.self.view_is
    (c.number_of.ensures row (subst (λ (t : NumberParts). IsBase t row c.args.base) (sym c.self.view_is) base))
