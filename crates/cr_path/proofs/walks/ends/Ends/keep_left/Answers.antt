use Rattle.std.proofs.Common.{length, sym, subst, take}
use Rattle.cr_path.specs.Ends.{HasEnds}
use Rattle.cr_path.proofs.Kept.{left_kept}
use Rattle.cr_path.proofs.walks.ends.Ends.keep_left.Goals as goal

pub returns : goal.returns
returns c p t node next after are uncut =
    let e = c.self.inside in
    left_kept p t node next (take (length node) e.before.items) e.last (subst (HasEnds p t node next) (sym c.self.view_is) are) after c.args.left uncut
