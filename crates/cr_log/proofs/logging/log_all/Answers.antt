use Rattle.std.proofs.Common.{ℕ, List, [], ◌∷◌, sym, subst}
use Rattle.cr_audit.specs.Logs.{LineParts}
use Rattle.cr_log.specs.Logging.{IsLogged}
use Rattle.cr_log.proofs.Adding.{none_logged}
use Rattle.cr_log.proofs.logging.log_all.Goals as goal

pub returns : goal.returns
returns c =
    let p = c.args.problem.now in
    c.in_ok-log_from.ensures []
    (subst (λ (node : List ℕ). IsLogged p c.new-3.result.items c.new-2.result.items (node ∷ [])) (sym c.in_ok-place.ensures.steps)
    (subst (λ (lines : List LineParts). IsLogged p lines c.new-2.result.items ([] ∷ [])) (sym c.new-3.ensures.items)
    (subst (λ (found : List (List ℕ)). IsLogged p [] found ([] ∷ [])) (sym c.new-2.ensures.items) (none_logged p))))
