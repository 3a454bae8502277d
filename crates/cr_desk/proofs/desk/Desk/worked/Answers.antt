use Rattle.std.proofs.Common.{◌∙◌, subst}
use Rattle.std.specs.Sync.Mutex.{mutex_guard_value}
use Rattle.cr_desk.specs.Asks.{HasNoWork}
use Rattle.cr_desk.proofs.desk.Desk.worked.Goals as goal

pub returns-then-not-explore-clause-none : goal.returns-then-not-explore-clause-none
returns-then-not-explore-clause-none g c =
    subst (HasNoWork (mutex_guard_value c.resigned.result).board (g.E.Explorer.explores c.args.explorer.now))
    (c.explore.ensures.worker ∙ c.ask_by-locked.ensures.worker ∙ c.loop.invariant.0) (c.resigned.ensures.none _)

pub returns-in-Resign-clause-none : goal.returns-in-Resign-clause-none
returns-in-Resign-clause-none g c =
    subst (HasNoWork (mutex_guard_value c.resigned-in-Resign.result).board (g.E.Explorer.explores c.args.explorer.now))
    (c.ask_by-locked.ensures.worker ∙ c.loop.invariant.0) (c.resigned-in-Resign.ensures.none _)
