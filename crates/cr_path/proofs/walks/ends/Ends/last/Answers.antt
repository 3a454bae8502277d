use Rattle.std.proofs.Common.{length, sym, subst, take}
use Rattle.cr_path.specs.Ends.{HasEnds}
use Rattle.cr_path.proofs.Kept.{last_end, last_left}
use Rattle.cr_path.proofs.walks.ends.Ends.last.Goals as goal

pub returns-clause-is : goal.returns-clause-is
returns-clause-is c p t node next are =
    let e = c.self.inside in
    last_end p t node next (take (length node) e.before.items) e.last (subst (HasEnds p t node next) (sym c.self.view_is) are)

pub returns-clause-left : goal.returns-clause-left
returns-clause-left c p t node next are =
    let e = c.self.inside in
    last_left p t node next (take (length node) e.before.items) e.last (subst (HasEnds p t node next) (sym c.self.view_is) are)
