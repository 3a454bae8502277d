use Rattle.std.proofs.Common.{ℕ, List, ◌++◌, refl, sym, ◌∙◌, subst}
use Rattle.cr_model.specs.Sizes.{children}
use Rattle.cr_log.specs.Logging.{opens, IsLogged}
use Rattle.cr_log.proofs.Adding.{opened_is}
use Rattle.cr_log.proofs.Going.{open_due, cut_due}
use Rattle.cr_log.proofs.logging.log_from.Goals as goal

pub returns-then-not-is_open : goal.returns-then-not-is_open
returns-then-not-is_open c = λ due begun.
    let p = c.args.problem.now in
    let node = c.args.place.now.steps.items in
    let lines = c.add.new.run.lines.items in
    let found = c.add.new.run.book.items in
    cut_due p (children p node) (opens c.judge-verdict.result) lines found due (sym c.is_open.ensures ∙ c.if-not-is_open.true)
    (subst (λ (opened : List (List ℕ)). IsLogged p lines found (opened ++ due)) (opened_is p node c.judge-verdict.result) (c.in_ok-add.ensures due begun))

pub returns : goal.returns
returns c = λ due begun.
    let p = c.args.problem.now in
    let node = c.args.place.now.steps.items in
    let lines = c.add.new.run.lines.items in
    let found = c.add.new.run.book.items in
    c.in_ok-log_below.ensures.logged due
    (open_due p node node (opens c.judge-verdict.result) lines found due (sym c.is_open.ensures ∙ c.if-not-is_open.false) refl
    (subst (λ (opened : List (List ℕ)). IsLogged p lines found (opened ++ due)) (opened_is p node c.judge-verdict.result) (c.in_ok-add.ensures due begun)))
